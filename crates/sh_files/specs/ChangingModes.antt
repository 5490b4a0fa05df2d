-- chmod.
use Rattle.std.specs.Prelude.{ℕ, zero, suc, Bool, true, List, [], ◌∷◌, ◌++◌, Option, Some, None, if◌then◌else◌}
use Rattle.br_path.specs.Path.{Names}
use Rattle.br_path.specs.Files.{FileMap}
use Rattle.tree_ops.specs.declared.change.ChangeFault.TheVariants.{Absent}
use Rattle.tree_ops.specs.Change.{SetMode}
use Rattle.tree_worlds.specs.World.{WorldData}
use Rattle.tree_worlds.specs.Program.{Program, Done, Refuse, Look, ◌>>=◌}
use Rattle.tree_worlds.specs.declared.reason.Reason.TheVariants.{Operand as no_operand, Change as for_change}
use Rattle.sh_places.specs.declared.spot.Spot.{Spot}
use Rattle.sh_places.specs.declared.kind.Kind.{Kind}
use Rattle.sh_places.specs.declared.kind.Kind.TheVariants.{Dir, Link, File}
use Rattle.sh_places.specs.Looks.{kind_at, mode_at, names_at}
use Rattle.sh_places.specs.Finding.{spot}
use Rattle.sh_places.specs.Parts.{choose, each, act_in, find}
use Rattle.sh_files.specs.Modes.{mode_change, changed_mode}
use Rattle.sh_files.specs.declared.mode.ModeChange.{ModeChange}
use Rattle.sh_files.specs.Folders.{is_empty}

abbrev pub set_mode : ModeChange → Spot → ℕ → Program (Unit {0})
set_mode change place old = act_in place.site (SetMode place.path (changed_mode change old))

-- a file, or a folder with what is to be done below it; links are left out
abbrev pub change_kind : (Spot → Program (Unit {0})) → ModeChange → WorldData → Spot → Option Kind → Program (Unit {0})
change_kind below change world place None = Refuse (for_change Absent)
change_kind below change world place (Some Link) = Done tt
change_kind below change world place (Some (File label)) = set_mode change place (mode_at world place)
change_kind below change world place (Some (Dir mode)) = set_mode change place mode >>= λ _. below place

abbrev pub change_at : (Spot → Program (Unit {0})) → FileMap → ModeChange → Spot → Program (Unit {0})
change_at below files change place = Look >>= λ world. change_kind below change world place (kind_at world files place)

-- what stands below a folder, by name, to a depth that no tree passes
unfoldable pub change_below : ℕ → FileMap → ModeChange → Spot → Program (Unit {0})
change_below zero files change place = Done tt
change_below (suc depth) files change place =
    Look >>= λ world. each (λ name. change_at (change_below depth files change) files change (spot place.site (place.path ++ name ∷ []))) (names_at world files place)

-- with `R` also what stands below
abbrev pub depth_of : Bool → ℕ
depth_of recursive = if recursive then 1024 else 0

-- one operand, followed
abbrev pub change_word : FileMap → Bool → ModeChange → List ℕ → Program (Unit {0})
change_word files recursive change word = find files word true >>= change_at (change_below (depth_of recursive) files change) files change

abbrev pub change_words : FileMap → Bool → Names → Option ModeChange → Program (Unit {0})
change_words files recursive words None = Refuse no_operand
change_words files recursive words (Some change) = choose (is_empty words) (Refuse no_operand) (each (change_word files recursive change) words)

-- chmod, by its option `R`; a mode and operands
abbrev pub chmod : FileMap → Bool → Names → Program (Unit {0})
chmod files recursive [] = Refuse no_operand
chmod files recursive (mode ∷ words) = change_words files recursive words (mode_change mode)
