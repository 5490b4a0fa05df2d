use Rattle.std.proofs.Common.{rules, ◌≡◌, ◌+◌, All, refl, subst, sym, ◌∙◌}
use Rattle.tree_cases.specs.Tasks.{AreLeft}
use Rattle.tree_cases.proofs.Ages.{AreTasks-begun, AreSound-after, left-more}
use Rattle.tree_cases.proofs.tasks.Tasks.followed.Goals as goal

pub invariant_of-result : goal.invariant_of-result
invariant_of-result g c =
    let task = c.self.inside.world.pen.task in
    let next : c.in_ok-number.number ≡ c.self.inside.world.pen.task + 1 = search rules in
    let last = c.in_ok-sealed.ensures (c.self.inside.world.pen.task + 1) (AreSound-after g.T.TreeOps.tree g.T.TreeOps.sealed c.self.inside.world c.self.inside.ended.items c.self.invariant) in
    let more = left-more g.T.TreeOps.tree g.T.TreeOps.sealed task (task + 1) c.self.inside.ended.items c.push.new.self.items c.in_ok-sealed.field-0 refl c.self.invariant.left last c.in_ok-push.ensures.items in
    AreTasks-begun g.T.TreeOps.tree g.T.TreeOps.sealed c.in_ok-begun.field-0 c.push.new.self.items c.in_ok-begun.ensures.trees c.in_ok-begun.ensures.held
    (subst (λ n. All (AreLeft g.T.TreeOps.tree g.T.TreeOps.sealed n) c.push.new.self.items) (sym (c.in_ok-begun.ensures.task ∙ next)) more)
