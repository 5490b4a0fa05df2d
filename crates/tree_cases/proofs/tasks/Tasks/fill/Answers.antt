use Rattle.std.proofs.Common.{rules, ◌≡◌, All, subst, sym}
use Rattle.tree_ops.specs.Pen.{counts_of}
use Rattle.tree_cases.specs.Tasks.{AreLeft}
use Rattle.tree_cases.proofs.Ages.{left-foreign, AreTasks-fill}
use Rattle.tree_cases.proofs.tasks.Tasks.fill.Goals as goal

pub fill-requires-clause-sound : goal.fill-requires-clause-sound
fill-requires-clause-sound g c =
    let task = c.self.inside.world.pen.task in
    let is : c.as_slice.result.now ≡ c.self.inside.ended.items = search rules in
    let all = subst (All (AreLeft g.T.TreeOps.tree g.T.TreeOps.sealed task)) (sym is) c.self.invariant.left in
    (c.in_ok-left.ensures task all).sound

pub fill-requires-clause-sealed : goal.fill-requires-clause-sealed
fill-requires-clause-sealed g c =
    let task = c.self.inside.world.pen.task in
    let is : c.as_slice.result.now ≡ c.self.inside.ended.items = search rules in
    let all = subst (All (AreLeft g.T.TreeOps.tree g.T.TreeOps.sealed task)) (sym is) c.self.invariant.left in
    (c.in_ok-left.ensures task all).whole

pub fill-requires-clause-foreign : goal.fill-requires-clause-foreign
fill-requires-clause-foreign g c =
    let task = c.self.inside.world.pen.task in
    let is : c.as_slice.result.now ≡ c.self.inside.ended.items = search rules in
    let all = subst (All (AreLeft g.T.TreeOps.tree g.T.TreeOps.sealed task)) (sym is) c.self.invariant.left in
    left-foreign g.T.TreeOps.tree g.T.TreeOps.sealed c.in_ok-left.left.now (counts_of c.self.inside.world.pen) (c.in_ok-left.ensures task all)

pub invariant_of-self : goal.invariant_of-self
invariant_of-self g c =
    let task = c.self.inside.world.pen.task in
    let is : c.as_slice.result.now ≡ c.self.inside.ended.items = search rules in
    let all = subst (All (AreLeft g.T.TreeOps.tree g.T.TreeOps.sealed task)) (sym is) c.self.invariant.left in
    AreTasks-fill g.T.TreeOps.tree g.T.TreeOps.sealed c.self.inside.world c.fill.new.self c.self.inside.ended.items c.args.area c.in_ok-left.left.now c.fill.result
    (c.in_ok-left.ensures task all) c.fill.ensures.put c.fill.ensures.held c.self.invariant
