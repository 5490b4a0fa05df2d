use Rattle.tree_ops.proofs.Hiding.{hidden-below}
use Rattle.tree_ops.proofs.Laying.{over-paths, label-over}
use Rattle.tree_ops.proofs.laws.over_by_look_ups.Goals as goal

pub returns-clause-hidden : goal.returns-clause-hidden
returns-clause-hidden c = hidden-below

pub returns-clause-paths : goal.returns-clause-paths
returns-clause-paths c = over-paths

pub returns-clause-labels : goal.returns-clause-labels
returns-clause-labels c = label-over
