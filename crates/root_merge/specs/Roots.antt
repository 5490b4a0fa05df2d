-- The root file system of a build: the union of what the packages wrote in their target trees.
use Rattle.std.specs.Prelude.{ℕ, Bool, true, false, List, [], ◌∷◌, ◌++◌, map, flat_map, Option, Some, None, if◌then◌else◌}
use Rattle.std.specs.List.{filter_map}
use Rattle.std.specs.Option.{option_map}
use Rattle.std.specs.FinMap as fin
use Rattle.std.specs.FinMap.{FinMap}
use Rattle.br_path.specs.Path.{Names, path_cmp}
use Rattle.br_path.specs.declared.area.Area.TheVariants.{Target}
use Rattle.plan_rows.specs.Plan.{Planned}
use Rattle.tree_ops.specs.declared.entry.Contents.{Contents}
use Rattle.tree_ops.specs.declared.entry.Label.{Label}
use Rattle.tree_ops.specs.declared.entry.Node.{Node}
use Rattle.tree_ops.specs.declared.entry.Node.TheVariants.{Dir, Link, File}
use Rattle.tree_ops.specs.Change.{is_path}
use Rattle.tree_ops.specs.Tree.{Tree, node_at, contents_of, has_label}
use Rattle.root_image.specs.declared.root.RootEntry.{RootEntry}
use Rattle.root_image.specs.declared.root.RootEntry.TheVariants as root
use Rattle.root_image.specs.Lines.{Entries}
use Rattle.task_shelves.specs.Shelf.{ShelfData}
use Rattle.task_shelves.specs.Packages.{Left, packages_left, is_area}

-- what stands at a path: its node, and the mode and bytes of a file
pub record Standing : Type 0 where
  pub node : Node
  pub contents : Option Contents

abbrev pub standing : Tree → Node → Standing
standing tree node = record { node = node; contents = contents_of tree node }

-- the entry of a target tree at a path that its package wrote; none where the package removed it
abbrev pub entry_at : Tree → Names → Bool → Option (Names × Standing)
entry_at tree path true = option_map (λ node. (path, standing tree node)) (node_at tree path)
entry_at tree path false = None

abbrev pub entries_of : Left → List (Names × Standing)
entries_of left = filter_map (λ pair. entry_at left.trees.target pair.1 (is_area pair.0 Target)) left.written

-- the root, where no package wrote it
abbrev pub first_root : Names × Standing
first_root = ([], record { node = Dir 493; contents = None })

-- what the packages wrote in their target trees, together with the root
abbrev pub root_among : List Left → FinMap path_cmp Standing
root_among packages = fin.from_entries (flat_map entries_of packages ++ first_root ∷ [])

abbrev pub root_of : Planned → (ℕ → ShelfData) → FinMap path_cmp Standing
root_of plan shelves = root_among (packages_left plan shelves)

-- the least path of a file
abbrev pub first_name : Label → List (Names × Standing) → Names → Names
first_name label [] path = path
first_name label (entry ∷ entries) path = if has_label label entry.1.node then entry.0 else first_name label entries path

abbrev pub whole_file : Option Contents → RootEntry
whole_file (Some contents) = root.First contents.mode contents.bytes
whole_file None = root.First 0 []

abbrev pub file_entry : Names → Names → Option Contents → RootEntry
file_entry path first contents = if is_path path first then whole_file contents else root.Same first

-- an entry as an image has it: a file stands whole at the least of its paths, and is named at the others
abbrev pub root_entry : List (Names × Standing) → Names → Option Contents → Node → RootEntry
root_entry all path contents (Dir mode) = root.Dir mode
root_entry all path contents (Link text) = root.Link text
root_entry all path contents (File label) = file_entry path (first_name label all path) contents

abbrev pub entries_among : List (Names × Standing) → Entries
entries_among all = map (λ entry. (entry.0, root_entry all entry.0 entry.1.contents entry.1.node)) all

-- the entries of the root, by path
abbrev pub root_entries : Planned → (ℕ → ShelfData) → Entries
root_entries plan shelves = entries_among (fin.entries (root_of plan shelves))
