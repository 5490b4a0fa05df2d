-- The copy of a source.
use Rattle.std.proofs.Common.{ℕ, ◌≡◌, Bool, true, false, List, Result, sym, subst, codes}
use Rattle.br_path.specs.Path.{Names}
use Rattle.br_path.specs.Files.{FileMap}
use Rattle.tree_worlds.specs.World.{WorldData}
use Rattle.tree_worlds.specs.Program.{Done, run, Ran}
use Rattle.tree_worlds.specs.declared.reason.CommandError.{CommandError}
use Rattle.sh_places.specs.Parts.{choose}
use Rattle.sh_files.specs.Commands.{command}
use Rattle.sh_lines.specs.Source.{is_folder, source_word, copy_words, copy_folder, copy}

-- the words by which the copy is asked for
pub worded : (files : FileMap) (world : WorldData) (folder name : List ℕ) (words : Names) (result : Result (Unit {0}) CommandError) (new : WorldData)
    → name ≡ codes "cp" → words ≡ copy_words folder world.owner → Ran (run (command files name words) world) result new → Ran (run (copy_folder files world folder) world) result new
worded files world folder name words result new named same ran =
    subst (λ n. Ran (run (command files n (copy_words folder world.owner)) world) result new) named (subst (λ w. Ran (run (command files name w) world) result new) same ran)

-- what is done, by whether the source is a folder
abbrev pub copied_by : FileMap → WorldData → List ℕ → Bool → Result (Unit {0}) CommandError → WorldData → Type 0
copied_by files world word is result new = Ran (run (choose is (copy_folder files world word) (Done tt)) world) result new

pub copied : (files : FileMap) (world : WorldData) (word : List ℕ) (is : Bool) (result : Result (Unit {0}) CommandError) (new : WorldData) → word ≡ source_word world.folder
    → is ≡ is_folder world files word → copied_by files world word is result new → Ran (run (copy files world) world) result new
copied files world word is result new named folder ran =
    subst (λ w. copied_by files world w (is_folder world files w) result new) named (subst (λ b. copied_by files world word b result new) folder ran)

-- where it is one, and where it isn't
pub copied-yes : (files : FileMap) (world : WorldData) (word : List ℕ) (is : Bool) (result : Result (Unit {0}) CommandError) (new : WorldData) → is ≡ true
    → Ran (run (copy_folder files world word) world) result new → copied_by files world word is result new
copied-yes files world word is result new holds ran = subst (λ b. copied_by files world word b result new) (sym holds) ran

pub copied-no : (files : FileMap) (world : WorldData) (word : List ℕ) (is : Bool) (result : Result (Unit {0}) CommandError) (new : WorldData) → is ≡ false
    → Ran (run (Done tt) world) result new → copied_by files world word is result new
copied-no files world word is result new fails ran = subst (λ b. copied_by files world word b result new) (sym fails) ran
