-- install.
use Rattle.std.specs.Prelude.{ℕ, Bool, true, false, ◌==◌, List, Option, Some, None, Result, Ok, Err}
use Rattle.br_path.specs.Path.{Names}
use Rattle.br_path.specs.Files.{FileMap}
use Rattle.tree_ops.specs.declared.entry.Label.{Label}
use Rattle.tree_ops.specs.declared.change.ChangeFault.TheVariants.{Absent, IsDir}
use Rattle.tree_ops.specs.Change.{SetMode}
use Rattle.tree_worlds.specs.Program.{Program, Done, Refuse, Look, ◌>>=◌}
use Rattle.tree_worlds.specs.declared.reason.Reason.{Reason}
use Rattle.tree_worlds.specs.declared.reason.Reason.TheVariants.{Operand as no_operand, Same, Change as for_change}
use Rattle.sh_places.specs.declared.spot.Spot.{Spot}
use Rattle.sh_places.specs.declared.kind.Kind.{Kind}
use Rattle.sh_places.specs.declared.kind.Kind.TheVariants.{Dir, Link, File}
use Rattle.sh_places.specs.Spot.{is_same_file}
use Rattle.sh_places.specs.Looks.{kind_at, bytes_at}
use Rattle.sh_places.specs.Parts.{attempt, choose, each, act_in, read, resolve, find}
use Rattle.sh_files.specs.Folders.{is_empty, make_path}
use Rattle.sh_files.specs.Goals.{base_for, place_for, goal_for, sources_of}
use Rattle.sh_files.specs.Modes.{mode_or}
use Rattle.sh_files.specs.Room.{make_room, make_file}
use Rattle.sh_files.specs.declared.goal.Goal.{Goal}

-- 1. install -d.

-- the folder gets the mode if it has another
abbrev pub set_if_other : Spot → ℕ → Option Kind → Program (Unit {0})
set_if_other folder mode (Some (Dir old)) = choose (mode == old) (Done tt) (act_in folder.site (SetMode folder.path mode))
set_if_other folder mode kind = Done tt

-- what stands at a place gets the mode, if it is a folder with another
abbrev pub give_mode : FileMap → ℕ → Spot → Program (Unit {0})
give_mode files mode folder = Look >>= λ world. set_if_other folder mode (kind_at world files folder)

-- the folders of one word, and the mode of the last
abbrev pub install_folder : FileMap → ℕ → List ℕ → Program (Unit {0})
install_folder files mode word =
    read files word >>= λ operand.
    make_path files 493 operand >>= λ _.
    resolve operand true >>= give_mode files mode

-- 2. install of files.

-- the label of a source that is a file
abbrev pub file_label : Option Kind → Result (Option Label) Reason
file_label None = Err (for_change Absent)
file_label (Some Link) = Err (for_change Absent)
file_label (Some (Dir mode)) = Err (for_change IsDir)
file_label (Some (File label)) = Ok label

-- the place holds the source itself, under whatever name
abbrev pub is_source : Spot → Option Label → Spot → Option Kind → Bool
is_source source label place (Some (File other)) = is_same_file source.site label place.site other
is_source source label place kind = false

-- a new file in the room of what stands at its place
abbrev pub replace : Spot → Option Kind → ℕ → List ℕ → Program (Unit {0})
replace place kind mode bytes = make_room place kind >>= λ _. make_file place mode bytes

-- a file of its own: what stands at the place makes room first, unless it is the source itself
abbrev pub install_at : Bool → Spot → Option Kind → ℕ → List ℕ → Program (Unit {0})
install_at same place kind mode bytes = choose same (Refuse Same) (replace place kind mode bytes)

-- the bytes at a place to a new file
abbrev pub install_from : FileMap → ℕ → Goal → List ℕ → Spot → Program (Unit {0})
install_from files mode goal base source =
    Look >>= λ world.
    attempt (file_label (kind_at world files source)) >>= λ label.
    attempt (place_for goal base) >>= λ place.
    install_at (is_source source label place (kind_at world files place)) place (kind_at world files place) mode (bytes_at world files source)

-- one source, followed: its bytes to a new file at its place
abbrev pub install_source : FileMap → ℕ → Goal → List ℕ → Program (Unit {0})
install_source files mode goal word = attempt (base_for goal word) >>= λ base. find files word true >>= install_from files mode goal base

abbrev pub install_sources : FileMap → ℕ → Names → Goal → Program (Unit {0})
install_sources files mode sources goal = each (install_source files mode goal) sources

-- 3. install, by its options: `d`; `D`; the value of `t`; the value of `m`; operands.

abbrev pub install_folders : FileMap → ℕ → Names → Program (Unit {0})
install_folders files mode operands = choose (is_empty operands) (Refuse no_operand) (each (install_folder files mode) operands)

abbrev pub install_files : FileMap → Bool → Option (List ℕ) → Names → ℕ → Program (Unit {0})
install_files files make into operands mode = goal_for files make into operands >>= install_sources files mode (sources_of into operands)

abbrev pub install_with : FileMap → Bool → Bool → Option (List ℕ) → Names → Option ℕ → Program (Unit {0})
install_with files folders make into operands None = Refuse no_operand
install_with files folders make into operands (Some mode) =
    choose folders (install_folders files mode operands) (install_files files make into operands mode)

abbrev pub install : FileMap → Bool → Bool → Option (List ℕ) → Option (List ℕ) → Names → Program (Unit {0})
install files folders make into mode operands = install_with files folders make into operands (mode_or mode 493)
