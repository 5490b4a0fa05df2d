-- Laws of the commands on files, and of sed.
use Rattle.std.specs.FinMap as fin
use Rattle.std.specs.Prelude.{◌≡◌, ℕ, Bool, true, false, List, [], ◌∷◌, ◌++◌, Option, Some, None, Ok}
use Rattle.br_path.specs.Path.{Names, rooted_text}
use Rattle.br_path.specs.Files.{FileMap, IsInput}
use Rattle.br_path.specs.declared.area.Area.{Area}
use Rattle.tree_ops.specs.declared.entry.Label.{Label}
use Rattle.tree_ops.specs.Tree.{IsTree}
use Rattle.tree_worlds.specs.World.{WorldData, tree_in}
use Rattle.tree_worlds.specs.Program.{run}
use Rattle.tree_worlds.specs.Kept.{left_by}
use Rattle.tree_worlds.specs.declared.operand.Operand.TheVariants.{Place}
use Rattle.tree_ops.specs.Walk.{components}
use Rattle.sh_places.specs.declared.spot.Spot.{Spot}
use Rattle.sh_places.specs.declared.kind.Kind.TheVariants.{Dir, File}
use Rattle.sh_places.specs.Looks.{kind_at, bytes_at, mode_at}
use Rattle.sh_places.specs.Finding.{found}
use Rattle.sh_files.specs.Goals.{place_for, goal_place}
use Rattle.sh_files.specs.Linking.{link_from}
use Rattle.sh_files.specs.Moving.{move_from}
use Rattle.sh_files.specs.Copying.{copy_contents, copy_folder, copy_below, made_mode}
use Rattle.sh_files.specs.Install.{install_from}
use Rattle.sh_files.specs.Removing.{remove_tree}
use Rattle.sh_files.specs.Touching.{touch}
use Rattle.sh_files.specs.Folders.{mkdir, make_path}
use Rattle.sh_files.specs.ChangingModes.{chmod}
use Rattle.sh_text.specs.declared.script.Script.{Script}
use Rattle.sh_text.specs.Editing.{edited_text}
use Rattle.sh_text.specs.Sed.{edit_file}
use Rattle.file_laws.specs.Words.{GoesThrough, KeepsAll, KeepsNames, NamesAgain, MovesTo, MakesFileAt, RemovesAt, LeadsToFolder, IsReachedWorld, CopiesTo}

-- 1. What commands keep, at their end and at their fault.

-- touch leaves all that stood there as it was
abbrev pub TouchKeepsAll : Type 0
TouchKeepsAll = (files : FileMap) (only_there : Bool) (operands : Names) (old : WorldData) → KeepsAll old (left_by (run (touch files only_there operands) old))

-- so does mkdir, with `p` and without
abbrev pub MkdirKeepsAll : Type 0
MkdirKeepsAll = (files : FileMap) (parents : Bool) (mode : Option (List ℕ)) (operands : Names) (old : WorldData) → KeepsAll old (left_by (run (mkdir files parents mode operands) old))

-- chmod adds no name and takes none
abbrev pub ChmodKeepsNames : Type 0
ChmodKeepsNames = (files : FileMap) (recursive : Bool) (operands : Names) (old : WorldData) → KeepsNames old (left_by (run (chmod files recursive operands) old))

-- 2. What commands make of a source at its goal.

-- ln of a file to a place where nothing is gives the file one name more, with the label that it has
abbrev pub LnAddsName : Type 0
LnAddsName = (files : FileMap) (force : Bool) (goal : _) (base : List ℕ) (source place : Spot) (label : Label) (old new : WorldData)
    → place_for goal base ≡ Ok place → (goal_place goal).site ≡ place.site → kind_at old files source ≡ Some (File (Some label)) → kind_at old files place ≡ None
    → GoesThrough (link_from files force goal base source) old new → NamesAgain source place label old new

-- mv takes all that stands at or below the source to its place, with its labels
abbrev pub MvIsWhole : Type 0
MvIsWhole = (files : FileMap) (goal : _) (base : List ℕ) (source place : Spot) (old new : WorldData)
    → place_for goal base ≡ Ok place → (goal_place goal).site ≡ place.site → ((area : Area) → IsTree (tree_in old.trees area))
    → GoesThrough (move_from files goal base source) old new → MovesTo source place old new

-- cp of a file to a place where nothing is makes a file of its own there, with the bytes of the source; its mode is the source's with `p`, else without the bits that 0755 lacks
abbrev pub CpMakesFile : Type 0
CpMakesFile = (files : FileMap) (manner : _) (source place : Spot) (label : Option Label) (old new : WorldData)
    → kind_at old files place ≡ None → GoesThrough (copy_contents files manner source label place) old new
    → MakesFileAt place (made_mode manner (mode_at old source)) (bytes_at old files source) old new

-- install makes a file of its own at its place, with the bytes of the source, whatever stood there and under which other names
abbrev pub InstallMakesFile : Type 0
InstallMakesFile = (files : FileMap) (mode : ℕ) (goal : _) (base : List ℕ) (source place : Spot) (old new : WorldData)
    → place_for goal base ≡ Ok place → GoesThrough (install_from files mode goal base source) old new
    → MakesFileAt place mode (bytes_at old files source) old new

-- sed with `i` makes a file of its own where the name of its operand stands, a link there or not, with the edited bytes and the mode of the file that the operand leads to
abbrev pub SedMakesFile : Type 0
SedMakesFile = (files : FileMap) (script : Script) (word : List ℕ) (source place : Spot) (old new : WorldData)
    → found old files word true ≡ Ok source → found old files word false ≡ Ok place → GoesThrough (edit_file files script word) old new
    → MakesFileAt place (mode_at old source) (edited_text script (bytes_at old files source)) old new

-- 3. Whole trees and walks.

-- rm -r that goes through leaves nothing at or below its place, and all else as it was
abbrev pub RmIsWhole : Type 0
RmIsWhole = (files : FileMap) (place : Spot) (old new : WorldData) → ((area : Area) → IsTree (tree_in old.trees area)) → GoesThrough (remove_tree files place) old new → RemovesAt place old new

-- mkdir -p that goes through leaves a folder at the end of each front of its walk
abbrev pub MkdirLeavesFolders : Type 0
MkdirLeavesFolders = (files : FileMap) (area : Area) (mode : ℕ) (walk : List ℕ) (before : Names) (name : List ℕ) (after : Names) (old new : WorldData)
    → components walk ≡ before ++ name ∷ after → GoesThrough (make_path files mode (Place area walk)) old new → LeadsToFolder new area (rooted_text (before ++ name ∷ []))

-- cp of a folder to a place where nothing is: at and below the place stands a copy of what stood at and below the source, and all else is as it was
abbrev pub CpMakesTree : Type 0
CpMakesTree = (files : FileMap) (manner : _) (source place : Spot) (mode : ℕ) (old new : WorldData)
    → IsInput files → IsReachedWorld old → kind_at old files source ≡ Some (Dir mode) → kind_at old files place ≡ None
    → GoesThrough (copy_folder (copy_below 1024 files manner) files manner fin.empty source mode place) old new → CopiesTo files (made_mode manner) source place old new
