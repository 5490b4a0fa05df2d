use Rattle.std.proofs.Common.{◌≡◌, ◌++◌}
use Rattle.tree_map.proofs.labels.copy_labels.Given as goal

abbrev pub invariant-loop-label : goal.invariant-loop-label
invariant-loop-label l = l.pairs.items ++ l.label-iterator ≡ l.fn.pairs.items ++ l.labels.entries
