-- mkdir -p: the folders on the way of a walk, and mkdir.
use Rattle.std.specs.Prelude.{ℕ, Bool, true, false, ◌||◌, ◌-◌, List, [], ◌∷◌, ◌++◌, length, take, codes, Option, Some, None, is_some, Result, Ok, Err, if◌then◌else◌}
use Rattle.std.specs.List.{list_all}
use Rattle.br_path.specs.Path.{Names}
use Rattle.br_path.specs.Text.{is_text}
use Rattle.br_path.specs.Files.{FileMap}
use Rattle.tree_ops.specs.declared.change.ChangeFault.TheVariants.{Absent, NotDir}
use Rattle.tree_ops.specs.Walk.{components}
use Rattle.tree_ops.specs.Change.{MakeDir}
use Rattle.tree_worlds.specs.World.{WorldData}
use Rattle.tree_worlds.specs.Program.{Program, Done, Refuse, Look, ◌>>=◌}
use Rattle.tree_worlds.specs.declared.operand.Operand.{Operand}
use Rattle.tree_worlds.specs.declared.operand.Operand.TheVariants.{Input, Place, Readable}
use Rattle.tree_worlds.specs.declared.reason.Reason.{Reason}
use Rattle.tree_worlds.specs.declared.reason.Reason.TheVariants.{Operand as no_operand, Change as for_change}
use Rattle.sh_places.specs.declared.spot.Site.{Site}
use Rattle.sh_places.specs.declared.spot.Site.TheVariants.{Tree as in_tree, Readable as in_readable}
use Rattle.sh_places.specs.declared.spot.Spot.{Spot}
use Rattle.sh_places.specs.declared.kind.Kind.{Kind}
use Rattle.sh_places.specs.declared.kind.Kind.TheVariants.{Dir}
use Rattle.sh_places.specs.Looks.{kind_at, input_kind}
use Rattle.sh_places.specs.Finding.{walked}
use Rattle.sh_files.specs.Modes.{mode_or}
use Rattle.sh_places.specs.Parts.{attempt, choose, each, act_in, read, find}

abbrev pub is_empty : Names → Bool
is_empty [] = true
is_empty (name ∷ names) = false

-- a folder is left as it is; a missing one is made, but not after a link
abbrev pub folder_at : ℕ → Spot → Option Kind → Bool → Program (Unit {0})
folder_at mode place (Some (Dir other)) dangling = Done tt
folder_at mode place (Some kind) dangling = Refuse (for_change NotDir)
folder_at mode place None true = Refuse (for_change Absent)
folder_at mode place None false = act_in place.site (MakeDir place.path mode)

-- something stands where a walk ends
abbrev pub is_there : WorldData → FileMap → Result Spot Reason → Bool
is_there world files (Ok place) = is_some (kind_at world files place)
is_there world files (Err reason) = false

-- the folder at the end of a walk; a link there that leads to nothing is Absent
abbrev pub ensure_folder : FileMap → Site → ℕ → List ℕ → Program (Unit {0})
ensure_folder files site mode walk =
    Look >>= λ world.
    attempt (walked world site walk true) >>= λ place.
    folder_at mode place (kind_at world files place) (is_there world files (walked world site walk false))

abbrev pub is_dots : List ℕ → Bool
is_dots name = is_text name (codes ".") || is_text name (codes "..")

-- the folders that names lead to, one after another from a front; the last that isn't `.` or `..` is made with the mode, those before it with 0755
abbrev pub ensure_folders : FileMap → Site → ℕ → List ℕ → Names → Program (Unit {0})
ensure_folders files site mode front [] = Done tt
ensure_folders files site mode front (name ∷ names) =
    ensure_folder files site (if list_all is_dots names then mode else 493) (front ++ 47 ∷ name) >>= λ _.
    ensure_folders files site mode (front ++ 47 ∷ name) names

-- what is there of the input is a folder
abbrev pub input_folder : Option Kind → Program (Unit {0})
input_folder (Some (Dir mode)) = Done tt
input_folder (Some kind) = Refuse (for_change NotDir)
input_folder None = Refuse (for_change Absent)

-- all folders of an operand
abbrev pub make_path : FileMap → ℕ → Operand → Program (Unit {0})
make_path files mode (Input path) = input_folder (input_kind files path)
make_path files mode (Place area walk) = ensure_folders files (in_tree area) mode [] (components walk)
make_path files mode (Readable task walk) = ensure_folders files (in_readable task) mode [] (components walk)

-- all names but the last
abbrev pub but_last : Names → Names
but_last names = take (length names - 1) names

-- the folders above an operand, by whether its last component is `.`; what stands in the input before one is a folder, and those above
-- something of the input are there
abbrev pub make_parents : FileMap → Bool → Operand → Program (Unit {0})
make_parents files dotted (Input path) = choose dotted (input_folder (input_kind files path)) (Done tt)
make_parents files dotted (Place area walk) = ensure_folders files (in_tree area) 493 [] (but_last (components walk))
make_parents files dotted (Readable task walk) = ensure_folders files (in_readable task) 493 [] (but_last (components walk))

-- mkdir of one word
abbrev pub make_folder : FileMap → ℕ → List ℕ → Program (Unit {0})
make_folder files mode word = find files word false >>= λ place. act_in place.site (MakeDir place.path mode)

-- mkdir -p of one word
abbrev pub make_folders : FileMap → ℕ → List ℕ → Program (Unit {0})
make_folders files mode word = read files word >>= make_path files mode

abbrev pub make_one : FileMap → Bool → ℕ → List ℕ → Program (Unit {0})
make_one files parents mode word = choose parents (make_folders files mode word) (make_folder files mode word)

abbrev pub make_all : FileMap → Bool → Names → Option ℕ → Program (Unit {0})
make_all files parents operands None = Refuse no_operand
make_all files parents operands (Some mode) = choose (is_empty operands) (Refuse no_operand) (each (make_one files parents mode) operands)

-- mkdir, by its options: `p`; the value of `m`; operands
abbrev pub mkdir : FileMap → Bool → Option (List ℕ) → Names → Program (Unit {0})
mkdir files parents mode operands = make_all files parents operands (mode_or mode 493)
