use Rattle.tree_cases.proofs.Ages.{left-at}
use Rattle.tree_cases.proofs.tasks.left.Goals as goal

pub returns-in-Some : goal.returns-in-Some
returns-in-Some g c limit all = c.tree.ensures limit (left-at g.T.TreeOps.tree g.T.TreeOps.sealed limit c.args.ended.now c.args.task c.in-Some.trees.now c.in-Some.ensures.lookup.3.0 c.in-Some.ensures.lookup.1 all)
