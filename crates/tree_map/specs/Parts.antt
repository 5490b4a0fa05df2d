-- The tree that two plain maps stand for, and its parts as they change.
use Rattle.std.specs.Prelude.{ℕ, Bool, false, not, ◌&&◌, List, [], ◌∷◌, ◌++◌, if◌then◌else◌, Option, Some, None, Result, Ok, Err, ◌≡◌}
use Rattle.std.specs.Borrow.{Bor}
use Rattle.std.specs.FinMap as fin
use Rattle.std.specs.FinMap.{FinMap}
use Rattle.std.specs.BTreeMap.{BTreeMap}
use Rattle.br_path.specs.Path.{Names, IsPath, parent_of}
use Rattle.std.specs.Option.{option_or, is_none}
use Rattle.std.specs.Prelude.{◌||◌, ◌==◌, Bool, false, Some, None, Ok, Err}
use Rattle.tree_ops.specs.declared.change.ChangeFault.TheVariants.{Outside, Absent, Loop}
use Rattle.tree_ops.specs.declared.entry.Label.{Label}
use Rattle.tree_ops.specs.declared.entry.Contents.{Contents}
use Rattle.tree_ops.specs.declared.entry.Node.{Node}
use Rattle.tree_ops.specs.declared.entry.Node.TheVariants.{File}
use Rattle.tree_ops.specs.declared.change.ChangeFault.{ChangeFault}
use Rattle.tree_map.specs.declared.trees.MapTree.{MapTree}
use Rattle.tree_ops.specs.Tree.{Tree, is_used, label_cmp, node_at, child_name}
use Rattle.tree_ops.specs.Change.{relabelled, dropped_unused, file_fault, is_at_or_below, is_too_long, moved_path, remove_fault, label_of, fault_if, is_path, is_below, parent_fault, replace_fault}

abbrev pub labels_of : BTreeMap Label Contents → FinMap label_cmp Contents
labels_of labels = fin.from_entries labels.entries

-- a path that would become too long
abbrev pub leads_too_far : Names → Names → Names × Node → Bool
leads_too_far old at entry = is_at_or_below old entry.0 && is_too_long (moved_path old at entry.0)

abbrev pub shown : MapTree → Tree
shown t = record { names = t.names; labels = labels_of t.labels }

abbrev pub with_name : Tree → Names → Node → Tree
with_name tree at node = record tree { names = fin.insert tree.names at node }

abbrev pub without_name : Tree → Names → Tree
without_name tree at = record tree { names = fin.remove tree.names at }

abbrev pub with_label : Tree → Label → Contents → Tree
with_label tree label contents = record tree { labels = fin.insert tree.labels label contents }

abbrev pub without_label : Tree → Label → Tree
without_label tree label = record tree { labels = fin.remove tree.labels label }

abbrev pub without_unused : Tree → Label → Tree
without_unused tree label = record tree { labels = if is_used tree.names label then tree.labels else fin.remove tree.labels label }

-- the tree with all names of one label under another, which stands for these contents
abbrev pub renewed : Tree → Label → Label → Contents → Tree
renewed tree from to contents = record { names = relabelled from to tree.names; labels = fin.remove (fin.insert tree.labels to contents) from }

-- labels in which one stands for what it stood for before, or for nothing
abbrev pub set_back : FinMap label_cmp Contents → Label → Option Contents → FinMap label_cmp Contents
set_back labels label None = fin.remove labels label
set_back labels label (Some contents) = fin.insert labels label contents

-- the label of the file at a path, or why there is none
abbrev pub IsFile : Option Node → Result Label ChangeFault → Type 0
IsFile node (Ok label) = node ≡ Some (File label)
IsFile node (Err fault) = file_fault node ≡ Some fault

-- what can be taken away, and the label of it; or why it can't
abbrev pub IsRemovable : Tree → Names → Option Node → Result (Option Label) ChangeFault → Type 0
IsRemovable tree at node (Ok gone) = (remove_fault tree at node ≡ None) × (gone ≡ label_of node)
IsRemovable tree at node (Err fault) = remove_fault tree at node ≡ Some fault

abbrev pub without_gone : Tree → Option Label → Tree
without_gone tree gone = record tree { labels = dropped_unused tree.names gone tree.labels }

-- why a move is refused, with what comes last
abbrev pub faults_in_turn : Option ChangeFault → Option ChangeFault → Bool → Option ChangeFault → Option ChangeFault → Option ChangeFault → Option ChangeFault → Option ChangeFault
faults_in_turn outside absent same loop parent replaced last = option_or outside (option_or absent (if same then None else option_or loop (option_or parent (option_or replaced last))))

abbrev pub move_fault : Tree → Names → Names → Option ChangeFault → Option ChangeFault
move_fault tree old at last = faults_in_turn (fault_if (is_path old [] || is_path at []) Outside) (fault_if (is_none (node_at tree old)) Absent) (is_path old at)
    (fault_if (is_below old at) Loop) (parent_fault tree (parent_of at)) (replace_fault tree at (node_at tree at) (node_at tree old)) last

abbrev pub is_of : Option ℕ → Label → Bool
is_of None label = false
is_of (Some task) label = label.task == task

-- all labels but the owner's are sealed
abbrev pub sealed_by : MapTree → Label → Bool
sealed_by t label = not (is_of t.owner label)

-- the name of a path that stands directly below another, which make up a path; or none
abbrev pub IsChildName : Names → Names → Option (Bor (List ℕ)) → Type 0
IsChildName at path None = child_name at path ≡ None
IsChildName at path (Some name) = (child_name at path ≡ Some name.now) × IsPath (at ++ name.now ∷ [])

-- what a tree of two maps copies isn't counted
abbrev pub uncounted : ℕ → ℕ → ℕ
uncounted copied size = copied
