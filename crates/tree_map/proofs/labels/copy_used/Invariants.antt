use Rattle.std.proofs.Common.{◌≡◌, ◌++◌}
use Rattle.std.specs.FinMap.Entries.{where_key}
use Rattle.tree_ops.specs.Tree.{label_cmp, is_used}
use Rattle.tree_map.proofs.labels.copy_used.Given as goal

abbrev pub invariant-loop-label : goal.invariant-loop-label
invariant-loop-label l = l.pairs.items ++ where_key label_cmp (is_used l.names) l.label-iterator ≡ l.fn.pairs.items ++ where_key label_cmp (is_used l.names) l.labels.entries
