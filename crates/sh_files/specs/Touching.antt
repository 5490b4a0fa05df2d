-- touch.
use Rattle.std.specs.Prelude.{ℕ, Bool, true, List, [], Option, Some, None, Result, Ok, Err}
use Rattle.br_path.specs.Path.{Names}
use Rattle.br_path.specs.Files.{FileMap}
use Rattle.tree_worlds.specs.World.{WorldData}
use Rattle.tree_worlds.specs.Program.{Program, Done, Refuse, Look, ◌>>=◌}
use Rattle.tree_worlds.specs.declared.reason.Reason.{Reason}
use Rattle.tree_worlds.specs.declared.reason.Reason.TheVariants.{Operand as no_operand}
use Rattle.sh_places.specs.declared.spot.Spot.{Spot}
use Rattle.sh_places.specs.declared.kind.Kind.{Kind}
use Rattle.sh_places.specs.Looks.{kind_at}
use Rattle.sh_places.specs.Finding.{spot_of}
use Rattle.sh_places.specs.Parts.{choose, each, read}
use Rattle.sh_files.specs.Room.{make_file}
use Rattle.sh_files.specs.Removing.{missing}
use Rattle.sh_files.specs.Folders.{is_empty}

-- what is there stays; a missing name becomes an empty file, with `c` nothing
abbrev pub touch_kind : Bool → Spot → Option Kind → Program (Unit {0})
touch_kind only_there place (Some kind) = Done tt
touch_kind only_there place None = choose only_there (Done tt) (make_file place 420 [])

abbrev pub touch_at : WorldData → FileMap → Bool → Result Spot Reason → Program (Unit {0})
touch_at world files only_there (Err reason) = missing only_there reason
touch_at world files only_there (Ok place) = touch_kind only_there place (kind_at world files place)

-- one operand, followed
abbrev pub touch_word : FileMap → Bool → List ℕ → Program (Unit {0})
touch_word files only_there word =
    read files word >>= λ operand. Look >>= λ world. touch_at world files only_there (spot_of world true operand)

-- touch, by its option `c`; operands
abbrev pub touch : FileMap → Bool → Names → Program (Unit {0})
touch files only_there operands = choose (is_empty operands) (Refuse no_operand) (each (touch_word files only_there) operands)
