-- What one map lacks of another, and the map with that added.
use Rattle.std.specs.Prelude.{◌≡◌, Bool, false, not, ◌&&◌, ◌==◌, List, [], ◌∷◌, map, Option, Some, None, nat_eq}
use Rattle.std.specs.declared.cmp.Ordering.{Ordering}
use Rattle.std.specs.Option.{is_none}
use Rattle.std.specs.Borrow.{Bor}
use Rattle.std.specs.Cmp.Lexicographic.{pointwise}
use Rattle.std.specs.FinMap as fin
use Rattle.std.specs.FinMap.{FinMap}
use Rattle.std.specs.FinMap.Entries.{where_key}
use Rattle.std.specs.List.{list_any}
use Rattle.br_path.specs.Path.{Names}
use Rattle.tree_ops.specs.declared.entry.Contents.{Contents}
use Rattle.tree_ops.specs.declared.entry.Label.{Label}
use Rattle.tree_ops.specs.declared.entry.Node.{Node}
use Rattle.tree_ops.specs.declared.entry.Node.TheVariants.{Dir, Link, File}
use Rattle.tree_ops.specs.Tree.{Tree}
use Rattle.tree_map.specs.NameTable.{is_label}

-- the keys of the entries that a map has none of, in their order
abbrev pub lacking : {K X : Type 0} {R : K → K → Ordering} → FinMap R X → List (K × X) → List K
lacking {R = R} low entries = map (λ entry. entry.0) (where_key R (λ key. is_none (fin.get low key)) entries)

-- another value than this one stands there
abbrev pub is_other : {X : Type 0} → (X → X → Bool) → Option X → X → Bool
is_other same None value = false
is_other same (Some own) value = not (same own value)

-- the map has another value at some entry's key
abbrev pub clash : {K X : Type 0} {R : K → K → Ordering} → (X → X → Bool) → FinMap R X → List (K × X) → Bool
clash same low entries = list_any (λ entry. is_other same (fin.get low entry.0) entry.1) entries

-- a value is put at a key, if there is one
abbrev pub put_at : {K X : Type 0} {R : K → K → Ordering} → FinMap R X → K → Option X → FinMap R X
put_at low key None = low
put_at low key (Some value) = fin.insert low key value

-- what the high map has at the keys is put there too
abbrev pub with_keys : {K X : Type 0} {R : K → K → Ordering} → List K → FinMap R X → FinMap R X → FinMap R X
with_keys [] high low = low
with_keys (key ∷ keys) high low = with_keys keys high (put_at low key (fin.get high key))

abbrev pub without_keys : {K X : Type 0} {R : K → K → Ordering} → List K → FinMap R X → FinMap R X
without_keys [] low = low
without_keys (key ∷ keys) low = without_keys keys (fin.remove low key)

-- what references to paths point to
abbrev pub paths_of : List (Bor Names) → List Names
paths_of paths = map (λ path. path.now) paths

abbrev pub is_node : Node → Node → Bool
is_node (Dir mode) (Dir other) = mode == other
is_node (Link text) (Link other) = pointwise nat_eq text other
is_node (File label) (File other) = is_label label other
is_node node other = false

abbrev pub is_contents : Contents → Contents → Bool
is_contents contents other = contents.mode == other.mode && pointwise nat_eq contents.bytes other.bytes

-- no name and no label of the high tree stands for something else in the low one, and these are those that the low one lacks
pub record AreLacking (low high : Tree) (paths : List Names) (labels : List Label) : Type 0 where
  pub same_nodes : clash is_node low.names (fin.entries high.names) ≡ false
  pub same_contents : clash is_contents low.labels (fin.entries high.labels) ≡ false
  pub names_lacked : paths ≡ lacking low.names (fin.entries high.names)
  pub labels_lacked : labels ≡ lacking low.labels (fin.entries high.labels)
