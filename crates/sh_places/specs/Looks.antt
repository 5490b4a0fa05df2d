-- What stands at a place: in one of the task's trees, in a readable build tree, or in the input.
use Rattle.std.specs.Prelude.{ℕ, ◌≤◌, List, [], ◌∷◌, filter_map, map, Option, Some, None, if◌then◌else◌}
use Rattle.std.specs.Option.{option_map, unwrap_or}
use Rattle.std.specs.Cmp.Lexicographic.{pointwise, slice_cmp}
use Rattle.std.specs.Ordering.{nat_cmp}
use Rattle.std.specs.Prelude.{nat_eq}
use Rattle.std.specs.FinMap as fin
use Rattle.br_path.specs.Path.{Names}
use Rattle.br_path.specs.Files.{FileMap}
use Rattle.tree_ops.specs.declared.entry.Entry.{Entry}
use Rattle.tree_ops.specs.declared.entry.Entry.TheVariants.{Dir as dir_entry, Link as link_entry, File as file_entry}
use Rattle.tree_ops.specs.Tree as trees
use Rattle.tree_ops.specs.Tree.{Tree, entry_at, names_below}
use Rattle.tree_worlds.specs.World.{WorldData, tree_in, shown_tree}
use Rattle.tree_worlds.specs.Operand.{is_file, is_folder}
use Rattle.sh_places.specs.declared.spot.Site.{Site}
use Rattle.sh_places.specs.declared.spot.Site.TheVariants.{Tree as in_tree, Readable as in_readable, Input as in_input}
use Rattle.sh_places.specs.declared.spot.Spot.{Spot}
use Rattle.sh_places.specs.declared.kind.Kind.{Kind}
use Rattle.sh_places.specs.declared.kind.Kind.TheVariants.{Dir, Link, File}

-- the tree of a site; the input has none
abbrev pub tree_of : WorldData → Site → Option Tree
tree_of world (in_tree area) = Some (tree_in world.trees area)
tree_of world (in_readable task) = shown_tree world.shown task
tree_of world in_input = None

abbrev pub kind_of : Entry → Kind
kind_of (dir_entry mode) = Dir mode
kind_of link_entry = Link
kind_of (file_entry label) = File (Some label)

-- 1. What stands there. Files of the input have no label; its folders have the mode 0755, its files 0644.

abbrev pub input_kind : FileMap → Names → Option Kind
input_kind files path = if is_file files path then Some (File None) else if is_folder files path then Some (Dir 493) else None

abbrev pub kind_in : Names → Option Tree → Option Kind
kind_in path None = None
kind_in path (Some tree) = option_map kind_of (entry_at tree path)

abbrev pub kind_on : WorldData → FileMap → Names → Site → Option Kind
kind_on world files path in_input = input_kind files path
kind_on world files path site = kind_in path (tree_of world site)

-- a folder's mode is at most 07777
abbrev pub IsModest : Kind → Type 0
IsModest (Dir mode) = mode ≤ 4095
IsModest Link = Unit {0}
IsModest (File label) = Unit {0}

abbrev pub kind_at : WorldData → FileMap → Spot → Option Kind
kind_at world files spot = kind_on world files spot.path spot.site

-- 2. The mode of a file, its bytes, the text of a link; 0 and none if nothing like that is there.

abbrev pub mode_in : Names → Option Tree → ℕ
mode_in path None = 0
mode_in path (Some tree) = unwrap_or (trees.mode_at tree path) 0

abbrev pub mode_on : WorldData → Names → Site → ℕ
mode_on world path in_input = 420
mode_on world path site = mode_in path (tree_of world site)

abbrev pub mode_at : WorldData → Spot → ℕ
mode_at world spot = mode_on world spot.path spot.site

abbrev pub bytes_in : Names → Option Tree → List ℕ
bytes_in path None = []
bytes_in path (Some tree) = unwrap_or (trees.bytes_at tree path) []

abbrev pub bytes_on : WorldData → FileMap → Names → Site → List ℕ
bytes_on world files path in_input = unwrap_or (fin.get files path) []
bytes_on world files path site = bytes_in path (tree_of world site)

abbrev pub bytes_at : WorldData → FileMap → Spot → List ℕ
bytes_at world files spot = bytes_on world files spot.path spot.site

abbrev pub text_in : Names → Option Tree → List ℕ
text_in path None = []
text_in path (Some tree) = unwrap_or (trees.text_at tree path) []

abbrev pub text_at : WorldData → Spot → List ℕ
text_at world spot = text_in spot.path (tree_of world spot.site)

-- 3. The names directly below, in the order of their bytes.

-- the name that comes next on the way from a folder to a path below it
abbrev pub next_name : Names → Names → Option (List ℕ)
next_name [] [] = None
next_name [] (name ∷ names) = Some name
next_name (name ∷ names) [] = None
next_name (name ∷ names) (other ∷ others) = if pointwise nat_eq name other then next_name names others else None

-- each once
abbrev pub input_names : FileMap → Names → Names
input_names files path =
    fin.keys (fin.from_entries {R = slice_cmp nat_cmp} (map (λ name. (name, tt {0})) (filter_map (next_name path) (fin.keys files))))

abbrev pub names_in : Names → Option Tree → Names
names_in path None = []
names_in path (Some tree) = names_below tree path

abbrev pub names_on : WorldData → FileMap → Names → Site → Names
names_on world files path in_input = input_names files path
names_on world files path site = names_in path (tree_of world site)

abbrev pub names_at : WorldData → FileMap → Spot → Names
names_at world files spot = names_on world files spot.path spot.site
