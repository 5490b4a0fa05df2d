use Rattle.std.proofs.Common.{◌+◌, ◌∙◌, [], arith, ap, length, subst, rules, replicate, None}
use Rattle.dep_graph.specs.Waiting.{AreUsers}
use Rattle.ready_yard.specs.Kept.{IsWaiting}
use Rattle.ready_yard.proofs.Yards.{yard_open}
use Rattle.ready_yard.proofs.yard.Yard.open.Goals as goal

pub invariant_of-result : goal.invariant_of-result
invariant_of-result g c =
    let needs = g.N.YardName.needs in
    let same = c.requires.graph in
    let len = c.count-count.ensures.count ∙ ap (λ g. length g) same in
    let users = c.in_ok-users.ensures in
    let waiting = c.in_ok-waiting.waiting in
    yard_open needs g.N.YardName.workers c.in_ok-users.users waiting.unmet.items waiting.ready _ _ _
    (subst (λ g. AreUsers g c.in_ok-users.users) same users.users)
    (users.count ∙ ap (λ g. length g) same)
    (subst (λ g. IsWaiting g [] waiting.unmet.items waiting.ready) same c.in_ok-waiting.ensures)
    (c.in_ok-hands.ensures.items_if_clones_equal (λ y e. search rules) ∙ ap (λ k. replicate (k + 1) None) c.requires.workers.0)
    c.in_ok-turns.ensures.items
    (omega (arith, c.in_ok-turns.ensures.capacity, len))
