-- Names by their paths, and how many of them each label has.
use Rattle.std.specs.Prelude.{◌≡◌, ℕ, ◌+◌, ◌==◌, Bool, ◌&&◌, Option, Some, None, if◌then◌else◌}
use Rattle.std.specs.List.{list_any, count_by}
use Rattle.std.specs.BTreeMap as tree
use Rattle.std.specs.BTreeMap.{BTreeMap}
use Rattle.std.specs.BTreeMap.Range.{IsLeBy}
use Rattle.std.specs.declared.cmp.Ordering.TheVariants.{Less}
use Rattle.std.specs.FinMap as fin
use Rattle.std.specs.FinMap.{FinMap}
use Rattle.br_path.specs.Path.{Names, path_cmp, folders_of}
use Rattle.tree_ops.specs.declared.entry.Label.{Label}
use Rattle.tree_ops.specs.declared.entry.Node.{Node}
use Rattle.tree_ops.specs.Tree.{label_cmp, has_label, is_leaf, child_name}

abbrev pub NameMap : Type 0
NameMap = FinMap path_cmp Node

abbrev pub names_of : BTreeMap Names Node → NameMap
names_of names = fin.from_entries names.entries

-- a file or link of these names stands above the path
abbrev pub hides : NameMap → Names → Bool
hides names at = list_any (λ folder. is_leaf (fin.get names folder)) (folders_of at)

-- how many of the names are of the file with a label
abbrev pub names_with : NameMap → Label → ℕ
names_with names label = count_by (λ entry. has_label label entry.1) (fin.entries names)

-- a count that is kept: none where there is nothing to count
abbrev pub kept : ℕ → Option ℕ
kept count = if count == 0 then None else Some count

-- these counts are kept for the labels, and no others
abbrev pub IsTally : BTreeMap Label ℕ → (Label → ℕ) → Type 0
IsTally counts numbers = (label : Label) → tree.get label_cmp counts label ≡ kept (numbers label)

abbrev pub is_label : Label → Label → Bool
is_label label other = label.task == other.task && label.number == other.number

-- the counts with one more name, which stands for a node
abbrev pub with_one : Node → (Label → ℕ) → Label → ℕ
with_one node numbers label = (if has_label label node then 1 else 0) + numbers label

-- the counts with all names of a label under another
abbrev pub with_moved : Label → Label → (Label → ℕ) → Label → ℕ
with_moved from to numbers label =
    if is_label label from then 0 else
    if is_label label to then numbers from + numbers to else numbers label

-- where to go on past a path, for the names directly below another: at it or past it, with none of these names between
pub record IsBehind (at path from : Names) : Type 0 where
  pub upto : IsLeBy path_cmp path from
  pub past : IsLeBy path_cmp at from
  pub skips : (q : Names) → path_cmp path q ≡ Less → IsLeBy path_cmp q from → child_name at q ≡ None
