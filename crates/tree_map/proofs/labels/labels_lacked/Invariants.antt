use Rattle.std.proofs.Common.{◌≡◌, ◌++◌}
use Rattle.std.specs.FinMap as fin
use Rattle.tree_map.specs.Lacking.{clash, is_contents, lacking}
use Rattle.tree_map.specs.Parts.{labels_of}
use Rattle.tree_map.proofs.labels.labels_lacked.Given as goal

abbrev pub invariant-loop-label : goal.invariant-loop-label
invariant-loop-label l = record {
  labels : l.labels.items ++ lacking (labels_of l.low) l.label-iterator ≡ lacking (labels_of l.low) (fin.entries (labels_of l.high));
  same : clash is_contents (labels_of l.low) l.label-iterator ≡ clash is_contents (labels_of l.low) (fin.entries (labels_of l.high));
}
