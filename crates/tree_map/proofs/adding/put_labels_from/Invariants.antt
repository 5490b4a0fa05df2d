use Rattle.std.proofs.Common.{◌≡◌, false, drop}
use Rattle.std.specs.FinMap as fin
use Rattle.std.specs.List.{list_any}
use Rattle.std.specs.Ordering.{eq_by_cmp}
use Rattle.tree_ops.specs.declared.entry.Label.{Label}
use Rattle.tree_ops.specs.Tree.{label_cmp}
use Rattle.tree_map.specs.Lacking.{with_keys}
use Rattle.tree_map.specs.Parts.{labels_of}
use Rattle.tree_map.proofs.adding.put_labels_from.Given as goal

abbrev pub invariant-loop-label : goal.invariant-loop-label
invariant-loop-label l = record {
  put : with_keys (drop l.label-index l.added) (labels_of l.high) (labels_of l.labels) ≡ with_keys l.added (labels_of l.high) (labels_of l.fn.labels);
  others : (q : Label) → list_any (eq_by_cmp label_cmp q) l.added ≡ false → (list_any (eq_by_cmp label_cmp q) (drop l.label-index l.added) ≡ false) × (fin.get (labels_of l.labels) q ≡ fin.get (labels_of l.fn.labels) q);
}
