use Rattle.std.proofs.Common.{◌≡◌, drop}
use Rattle.tree_map.specs.Lacking.{without_keys}
use Rattle.tree_map.specs.Parts.{labels_of}
use Rattle.tree_map.proofs.adding.remove_labels.Given as goal

abbrev pub invariant-loop-label : goal.invariant-loop-label
invariant-loop-label l = without_keys (drop l.label-index l.gone) (labels_of l.labels) ≡ without_keys l.gone (labels_of l.fn.labels)
