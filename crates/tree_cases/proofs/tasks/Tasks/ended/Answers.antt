use Rattle.std.proofs.Common.{rules, ◌≡◌, All, subst, sym}
use Rattle.std.proofs.lemmas.Result.{IfOk-weaker}
use Rattle.tree_ops.specs.Held.{IsSealed}
use Rattle.tree_ops.specs.Tree.{IsTree}
use Rattle.tree_cases.specs.Tasks.{IsLeft, AreLeft}
use Rattle.tree_cases.proofs.tasks.Tasks.ended.Goals as goal

pub returns-clause-sound : goal.returns-clause-sound
returns-clause-sound g c =
    let task = c.self.inside.world.pen.task in
    let is : c.as_slice.result.now ≡ c.self.inside.ended.items = search rules in
    let all = subst (All (AreLeft g.T.TreeOps.tree g.T.TreeOps.sealed task)) (sym is) c.self.invariant.left in
    IfOk-weaker c.left.result (λ left. IsLeft g.T.TreeOps.tree g.T.TreeOps.sealed task left.now) (λ left. IsTree (g.T.TreeOps.tree left.now)) (λ left is. is.sound) (c.left.ensures task all)

pub returns-clause-sealed : goal.returns-clause-sealed
returns-clause-sealed g c =
    let task = c.self.inside.world.pen.task in
    let is : c.as_slice.result.now ≡ c.self.inside.ended.items = search rules in
    let all = subst (All (AreLeft g.T.TreeOps.tree g.T.TreeOps.sealed task)) (sym is) c.self.invariant.left in
    IfOk-weaker c.left.result (λ left. IsLeft g.T.TreeOps.tree g.T.TreeOps.sealed task left.now) (λ left. IsSealed (g.T.TreeOps.tree left.now) (g.T.TreeOps.sealed left.now)) (λ left is. is.whole) (c.left.ensures task all)
