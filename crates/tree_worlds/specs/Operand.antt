-- What a word of a command names: a place in a tree, or a file or folder of the input.
use Rattle.std.specs.Prelude.{ℕ, Bool, not, ◌&&◌, ◌||◌, ◌==◌, nat_le, List, [], ◌∷◌, length, take, drop, filter, position, codes, Option, Some, None, is_some, Result, Ok, Err, if◌then◌else◌}
use Rattle.std.specs.FinMap as fin
use Rattle.std.specs.List.{list_any, list_all}
use Rattle.std.specs.Option.{unwrap_or}
use Rattle.br_path.specs.Path.{Names, parts}
use Rattle.br_path.specs.Text.{is_text}
use Rattle.br_path.specs.Files.{FileMap}
use Rattle.br_path.specs.declared.area.Area.{Area}
use Rattle.br_path.specs.declared.area.Area.TheVariants.{Build, Host, Staging, Target}
use Rattle.tree_ops.specs.Walk.{IsWalk, is_filled, begins_at_root}
use Rattle.tree_ops.specs.Change.{is_below, is_at_or_below}
use Rattle.tree_ops.specs.declared.change.ChangeFault.TheVariants.{Outside, Absent}
use Rattle.tree_worlds.specs.declared.operand.Operand.{Operand}
use Rattle.tree_worlds.specs.declared.operand.Operand.TheVariants.{Input, Place, Readable}
use Rattle.tree_worlds.specs.declared.reason.Reason.{Reason}
use Rattle.tree_worlds.specs.declared.reason.Reason.TheVariants.{Operand as no_operand, Change as for_change}
use Rattle.tree_worlds.specs.declared.reason.CommandError.{CommandError}
use Rattle.tree_worlds.specs.declared.reason.CommandError.TheVariants.{Failed}
use Rattle.tree_worlds.specs.World.{WorldData, ReadableTree, both_mapped}

abbrev pub Named : Type 0
Named = Result Operand Reason

-- 1. Components.

-- how far a text goes before the first byte that passes
abbrev pub up_to : (ℕ → Bool) → List ℕ → ℕ
up_to test text = unwrap_or (position test text) (length text)

-- a text without the slashes in front of it
abbrev pub unrooted : List ℕ → List ℕ
unrooted text = drop (up_to (λ byte. not (byte == 47)) text) text

-- the first component of a text
abbrev pub first_of : List ℕ → List ℕ
first_of text = take (up_to (λ byte. byte == 47) (unrooted text)) (unrooted text)

-- what stands after it, with the slash between them
abbrev pub behind : List ℕ → List ℕ
behind text = drop (up_to (λ byte. byte == 47) (unrooted text)) (unrooted text)

-- 2. Places in trees.

-- the area that a folder of the output is
abbrev pub area_of : List ℕ → Option Area
area_of name =
    if is_text name (codes "target") then Some Target else
    if is_text name (codes "staging") then Some Staging else
    if is_text name (codes "host") then Some Host else None

-- the walk in an area, or outside of all
abbrev pub in_area : Option Area → List ℕ → Named
in_area None walk = Err (for_change Outside)
in_area (Some area) walk = Ok (Place area walk)

-- the task whose readable tree is that of a package
abbrev pub readable_of : List ReadableTree → List ℕ → Option ℕ
readable_of [] name = None
readable_of (shown ∷ more) name = if is_text name shown.owner then Some shown.task else readable_of more name

-- the walk in a readable tree, or outside of all
abbrev pub in_readable : Option ℕ → List ℕ → Named
in_readable None walk = Err (for_change Outside)
in_readable (Some task) walk = Ok (Readable task walk)

-- below `output/build`: the task's own package, or, in a prep task, a patch dependency; `output/build` alone is no place
abbrev pub in_build : WorldData → List ℕ → Named
in_build world text =
    if not (is_filled (first_of text)) then Err (for_change Outside) else
    if is_text (first_of text) world.owner then Ok (Place Build (behind text)) else
    if world.prep then in_readable (readable_of world.shown (first_of text)) (behind text) else Err (for_change Outside)

-- below `output`: `build`, or the folder of an area
abbrev pub in_output : WorldData → List ℕ → Named
in_output world text = if is_text (first_of text) (codes "build") then in_build world (behind text) else in_area (area_of (first_of text)) (behind text)

-- from the root: `output` alone
abbrev pub place_of : WorldData → List ℕ → Named
place_of world text = if is_text (first_of text) (codes "output") then in_output world (behind text) else Err (for_change Outside)

-- 3. Files and folders of the input.

-- a component that counts: neither empty nor `.`
abbrev pub is_counted : List ℕ → Bool
is_counted name = is_filled name && not (is_text name (codes "."))

abbrev pub names_of : List ℕ → Names
names_of word = filter is_counted (parts word)

abbrev pub is_parent : List ℕ → Bool
is_parent name = is_text name (codes "..")

abbrev pub board : Names
board = codes "board" ∷ []

-- the package's folder or `board`, or below one of them
abbrev pub is_within : Names → Names → Bool
is_within folder names = is_at_or_below folder names || is_at_or_below board names

-- below one of them
abbrev pub is_inside : Names → Names → Bool
is_inside folder names = is_below folder names || is_below board names

-- a file has this path
abbrev pub is_file : FileMap → Names → Bool
is_file files names = is_some (fin.get files names)

-- a file's path goes on after this one
abbrev pub is_folder : FileMap → Names → Bool
is_folder files names = list_any (λ file. is_below names file.0) (fin.entries files)

-- a file that lies below the package's folder or `board`, or a folder
abbrev pub is_there : Names → FileMap → Names → Bool
is_there folder files names = (is_inside folder names && is_file files names) || is_folder files names

abbrev pub found : Names → FileMap → Names → Named
found folder files names = if is_there folder files names then Ok (Input names) else Err (for_change Absent)

abbrev pub input_of : Names → FileMap → Names → Named
input_of folder files names =
    if list_any is_parent names then Err (for_change Outside) else
    if is_within folder names then found folder files names else Err (for_change Outside)

-- 4. Operands.

-- a text that can be an operand: not empty, all its bytes printable ASCII
abbrev pub is_operand : List ℕ → Bool
is_operand word = is_filled word && list_all (λ byte. nat_le 32 byte && nat_le byte 126) word

-- what a word names: from the root a place, else a file or folder of the input
abbrev pub operand_of : WorldData → FileMap → List ℕ → Named
operand_of world files word =
    if not (is_operand word) then Err no_operand else
    if begins_at_root word then place_of world word else input_of world.folder files (names_of word)

-- the same as a call's answer
abbrev pub told : Named → Result Operand CommandError
told = both_mapped (λ operand. operand) Failed

-- a walk has only bytes that a walk may have
abbrev pub HasWalk : Operand → Type 0
HasWalk (Input path) = Unit {0}
HasWalk (Place area walk) = IsWalk walk
HasWalk (Readable task walk) = IsWalk walk
