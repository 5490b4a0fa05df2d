-- Where the sources of install, cp, mv and ln go.
use Rattle.std.specs.Prelude.{ℕ, ◌&&◌, not, Bool, true, false, List, [], ◌∷◌, length, nat_le, Option, Some, None, Result, Ok, Err, if◌then◌else◌}
use Rattle.std.specs.List.{list_all}
use Rattle.br_path.specs.Path.{Names, is_name_byte}
use Rattle.br_path.specs.Files.{FileMap}
use Rattle.tree_ops.specs.declared.change.ChangeFault.TheVariants.{Absent, NotDir}
use Rattle.tree_ops.specs.Walk.{components}
use Rattle.tree_worlds.specs.World.{WorldData}
use Rattle.tree_worlds.specs.Program.{Program, Done, Refuse, Look, ◌>>=◌}
use Rattle.tree_worlds.specs.declared.operand.Operand.{Operand}
use Rattle.tree_worlds.specs.declared.reason.Reason.{Reason}
use Rattle.tree_worlds.specs.declared.reason.Reason.TheVariants.{Operand as no_operand, Change as for_change}
use Rattle.sh_places.specs.declared.spot.Spot.{Spot}
use Rattle.sh_places.specs.declared.kind.Kind.{Kind}
use Rattle.sh_places.specs.declared.kind.Kind.TheVariants.{Dir, Link, File}
use Rattle.sh_places.specs.Looks.{kind_at}
use Rattle.sh_places.specs.Finding as finding
use Rattle.sh_places.specs.Finding.{spot_of, place_below}
use Rattle.sh_places.specs.Parts.{choose, read, resolve}
use Rattle.sh_files.specs.Folders.{is_dots, is_empty, but_last, make_path, make_parents}
use Rattle.sh_files.specs.declared.goal.Goal.{Goal}
use Rattle.sh_files.specs.declared.goal.Goal.TheVariants.{Into, Onto}

-- 1. Bases.

abbrev pub last_of : Names → Option (List ℕ)
last_of [] = None
last_of (name ∷ []) = Some name
last_of (name ∷ other ∷ names) = last_of (other ∷ names)

-- bytes that a name may have, and neither `.` nor `..`
abbrev pub is_plain : List ℕ → Bool
is_plain name = list_all is_name_byte name && not (is_dots name)

abbrev pub plain : Option (List ℕ) → Result (List ℕ) Reason
plain None = Err no_operand
plain (Some name) = if is_plain name then Ok name else Err no_operand

-- the base of an operand: its last component, which is no `.` and no `..`
abbrev pub base_of : List ℕ → Result (List ℕ) Reason
base_of word = plain (last_of (components word))

-- the name that a source gets in the folder into which it goes; where it goes to a place, it gets none
abbrev pub base_for : Goal → List ℕ → Result (List ℕ) Reason
base_for (Into folder) word = base_of word
base_for (Onto place) word = Ok []

-- what a name is for its goal: in a folder it can be one of a path, except for its length
abbrev pub IsBase : Goal → List ℕ → Type 0
IsBase (Into folder) base = finding.IsStep base
IsBase (Onto place) base = Unit {0}

abbrev pub place_for : Goal → List ℕ → Result Spot Reason
place_for (Into folder) base = place_below folder base
place_for (Onto place) base = Ok place

-- 2. The destination.

abbrev pub is_dir : Option Kind → Bool
is_dir None = false
is_dir (Some (Dir mode)) = true
is_dir (Some Link) = false
is_dir (Some (File label)) = false

-- the folder at a place
abbrev pub folder_there : WorldData → FileMap → Result Spot Reason → Option Spot
folder_there world files (Err reason) = None
folder_there world files (Ok place) = if is_dir (kind_at world files place) then Some place else None

abbrev pub onto : Spot → Program Goal
onto place = Done (Onto place)

abbrev pub is_dotted : Option (List ℕ) → Bool
is_dotted None = false
is_dotted (Some name) = is_dots name

-- the last component of a word is `.` or `..`
abbrev pub ends_in_dots : List ℕ → Bool
ends_in_dots word = is_dotted (last_of (components word))

-- the place of the last operand itself, after the folders above it where they are asked for
abbrev pub goal_at_place : FileMap → Bool → Bool → Operand → Program Goal
goal_at_place files parents dotted operand =
    choose parents (make_parents files dotted operand) (Done tt) >>= λ _. resolve operand false >>= onto

-- into the folder that the last operand leads to; else, for one source alone, onto its place
abbrev pub goal_of : FileMap → Bool → ℕ → Bool → Operand → Option Spot → Program Goal
goal_of files parents sources dotted operand (Some folder) = Done (Into folder)
goal_of files parents sources dotted operand None = choose (nat_le 2 sources) (Refuse (for_change NotDir)) (goal_at_place files parents dotted operand)

abbrev pub last_goal : FileMap → Bool → ℕ → List ℕ → Program Goal
last_goal files parents sources word =
    read files word >>= λ operand.
    Look >>= λ world.
    goal_of files parents sources (ends_in_dots word) operand (folder_there world files (spot_of world true operand))

abbrev pub into : Spot → Option Kind → Program Goal
into folder None = Refuse (for_change Absent)
into folder (Some (Dir mode)) = Done (Into folder)
into folder (Some kind) = Refuse (for_change NotDir)

-- into the folder of the option `t`, made first where that is asked for
abbrev pub named_goal : FileMap → Bool → List ℕ → Program Goal
named_goal files make word =
    read files word >>= λ operand.
    choose make (make_path files 493 operand) (Done tt) >>= λ _.
    resolve operand true >>= λ folder.
    Look >>= λ world.
    into folder (kind_at world files folder)

abbrev pub goal_place : Goal → Spot
goal_place (Into folder) = folder
goal_place (Onto place) = place

-- 3. Sources and their goal.

-- with the option `t` all operands are sources, else all but the last
abbrev pub sources_of : Option (List ℕ) → Names → Names
sources_of None operands = but_last operands
sources_of (Some word) operands = operands

abbrev pub goal_by : FileMap → Bool → ℕ → Option (List ℕ) → Option (List ℕ) → Program Goal
goal_by files make sources (Some word) last = named_goal files make word
goal_by files make sources None (Some word) = last_goal files make sources word
goal_by files make sources None None = Refuse no_operand

-- the goal of one source or more; `D` of install makes its folders
abbrev pub goal_for : FileMap → Bool → Option (List ℕ) → Names → Program Goal
goal_for files make named operands =
    choose (is_empty (sources_of named operands)) (Refuse no_operand) (goal_by files make (length (sources_of named operands)) named (last_of operands))
