use Rattle.std.proofs.Common.{All, subst, sym}
use Rattle.std.proofs.lemmas.List.Elements.{All-nil}
use Rattle.tree_cases.specs.Tasks.{AreLeft}
use Rattle.tree_cases.proofs.Ages.{AreTasks-begun}
use Rattle.tree_cases.proofs.tasks.Tasks.new.Goals as goal

pub invariant_of-result : goal.invariant_of-result
invariant_of-result g c =
    let task = c.in_ok-begun.field-0.pen.task in
    AreTasks-begun g.T.TreeOps.tree g.T.TreeOps.sealed c.in_ok-begun.field-0 c.new.result.items c.in_ok-begun.ensures.trees c.in_ok-begun.ensures.held
    (subst (All (AreLeft g.T.TreeOps.tree g.T.TreeOps.sealed task)) (sym c.new.ensures.items) (All-nil (AreLeft g.T.TreeOps.tree g.T.TreeOps.sealed task)))
