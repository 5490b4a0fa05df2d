use Rattle.std.proofs.Common.{◌≡◌, ◌++◌}
use Rattle.std.specs.Prelude.{not, filter}
use Rattle.tree_ops.specs.Tree.{node_at}
use Rattle.tree_names.specs.Changes.{is_node, changed_names}
use Rattle.tree_names.proofs.changes.changed_names.Given as goal

-- the paths found so far and those to come are all that were changed
abbrev pub invariant-loop-at : goal.invariant-loop-at
invariant-loop-at g l =
    let before = g.T.TreeOps.tree l.before in
    let after = g.T.TreeOps.tree l.after in
    l.changed.items ++ filter (λ path. not (is_node (node_at before path) (node_at after path))) l.at-iterator ≡ changed_names before after
