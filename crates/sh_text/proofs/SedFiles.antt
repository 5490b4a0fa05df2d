-- Files that are edited one after another.
use Rattle.std.proofs.Common.{◌≡◌, ℕ, suc, ◌+◌, ◌<◌, List, ◌∷◌, ◌++◌, length, get_or, drop, Ok, Err, sym, ap, ◌∙◌, add-one, drop-cons}
use Rattle.br_path.specs.Path.{Names}
use Rattle.br_path.specs.Files.{FileMap}
use Rattle.tree_worlds.specs.World.{WorldData}
use Rattle.tree_worlds.specs.Program.{Run, run, go_on, Ran}
use Rattle.tree_worlds.specs.declared.reason.CommandError.{CommandError}
use Rattle.sh_places.proofs.Ran.{ran_same, ran_err}
use Rattle.sh_text.specs.declared.script.Script.{Script}
use Rattle.sh_text.specs.Sed.{edited_file, edited_files}

next_word : (words : Names) (i : ℕ) (item given : List ℕ) → i < length words → item ≡ get_or words i item → given ≡ item → drop i words ≡ given ∷ drop (suc i) words
next_word words i item given within is same = drop-cons words i item within ∙ ap (λ (w : List ℕ). w ∷ drop (suc i) words) (sym is ∙ sym same)

-- the text of a file goes after the output, and then the others
pub edited_next : (files : FileMap) (script : Script) (output text : List ℕ) (words : Names) (i : ℕ) (item given : List ℕ) (world : WorldData) (whole : Run (List ℕ)) → i < length words → item ≡ get_or words i item → given ≡ item
    → run (edited_files files script output (drop i words)) world ≡ whole → run (edited_file files script given) world ≡ Ok (text, world) → run (edited_files files script (output ++ text) (drop (i + 1) words)) world ≡ whole
edited_next files script output text words i item given world whole within is same left done =
    ap (λ n. run (edited_files files script (output ++ text) (drop n words)) world) (add-one i)
    ∙ (sym (ap (λ (w : Names). run (edited_files files script output w) world) (next_word words i item given within is same) ∙ ap (λ o. go_on o (λ more. run (edited_files files script (output ++ more) (drop (suc i) words)))) done) ∙ left)

pub edited_stop : (files : FileMap) (script : Script) (output : List ℕ) (words : Names) (i : ℕ) (item given : List ℕ) (error : CommandError) (world : WorldData) (whole : Run (List ℕ)) → i < length words → item ≡ get_or words i item → given ≡ item
    → run (edited_files files script output (drop i words)) world ≡ whole → Ran (run (edited_file files script given) world) (Err error) world → Ran whole (Err error) world
edited_stop files script output words i item given error world whole within is same left fails =
    ran_same (run (edited_files files script output (given ∷ drop (suc i) words)) world) whole (Err error) world
    (sym (ap (λ (w : Names). run (edited_files files script output w) world) (next_word words i item given within is same)) ∙ left)
    (ran_err (run (edited_file files script given) world) (λ more. run (edited_files files script (output ++ more) (drop (suc i) words))) error world fails)
