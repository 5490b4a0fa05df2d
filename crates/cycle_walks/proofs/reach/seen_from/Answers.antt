use Rattle.std.proofs.Common.{◌≡◌, [], subst, arith}
use Rattle.std.proofs.lemmas.List.{nil_from_length}
use Rattle.cycle_walks.specs.Reach.{shown}
use Rattle.cycle_walks.proofs.Sights.{IsSight, look_first, look_more, look_falls, listed_below, all_seen}
use Rattle.cycle_walks.proofs.reach.seen_from.Goals as goal

pub loop-next-init : goal.loop-next-init
loop-next-init c =
    look_first c.args.graph.now c.count.ensures.graph c.args.node c.count.result (shown c.in_ok-reach.reach) (shown c.look.new.self) c.count.ensures.count c.in_ok-reach.ensures c.in_ok-look.ensures

pub look-requires-in-Some-clause-node : goal.look-requires-in-Some-clause-node
look-requires-in-Some-clause-node c =
    let r = c.loop-next.reach in
    listed_below c.args.graph.now c.count.ensures.graph c.args.node r.seen.items r.todo.items c.pop.new.self.items c.in-Some.next c.loop-next.invariant c.in-Some.ensures.items

pub loop-next-smaller : goal.loop-next-smaller
loop-next-smaller c =
    let r = c.loop-next.reach in
    look_falls c.args.graph.now c.count.ensures.graph c.args.node r.seen.items r.todo.items c.pop.new.self.items c.in-Some.next c.loop-next.invariant c.in-Some.ensures.items (shown c.look-in-Some.new.self) c.in_ok-look-2.ensures

pub loop-next-preserved : goal.loop-next-preserved
loop-next-preserved c =
    let r = c.loop-next.reach in
    look_more c.args.graph.now c.count.ensures.graph c.args.node r.seen.items r.todo.items c.pop.new.self.items c.in-Some.next c.loop-next.invariant c.in-Some.ensures.items (shown c.look-in-Some.new.self) c.in_ok-look-2.ensures

pub returns-clause-reached : goal.returns-clause-reached
returns-clause-reached c =
    let r = c.loop-next.reach in
    let none : r.todo.items ≡ [] = nil_from_length r.todo.items (omega (arith, c.in_default.ensures.cases.0, r.todo.ok.0)) in
    all_seen c.args.graph.now c.args.node r.seen.items (subst (λ xs. IsSight c.args.graph.now c.args.node (record { seen = r.seen.items; todo = xs })) none c.loop-next.invariant)
