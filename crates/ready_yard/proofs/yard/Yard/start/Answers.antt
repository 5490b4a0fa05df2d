use Rattle.std.proofs.Common.{sym, subst, arith}
use Rattle.std.specs.Vec.{vec_capacity}
use Rattle.ready_yard.specs.History.{MayFollow}
use Rattle.ready_yard.specs.declared.turn.Turn.TheVariants.{Start}
use Rattle.ready_yard.proofs.Turns.{ready_parts, spare_start}
use Rattle.ready_yard.proofs.Yards.{yard_start}
use Rattle.ready_yard.proofs.yard.Yard.start.Goals as goal

pub push_reserved-requires : goal.push_reserved-requires
push_reserved-requires g c =
    let may = subst (λ h. MayFollow g.N.YardName.needs g.N.YardName.workers h (Start c.args.worker c.args.task)) (sym c.self.view_is) c.requires in
    let parts = ready_parts g.N.YardName.needs c.self.inside.turns.items c.args.task may.3.ready in
    let less = spare_start g.N.YardName.needs c.self.inside.turns.items (vec_capacity c.self.inside.turns) c.args.task c.self.invariant.room_is parts.0 parts.1 in
    omega (arith, less)

pub invariant_of-self : goal.invariant_of-self
invariant_of-self g c =
    let may = subst (λ h. MayFollow g.N.YardName.needs g.N.YardName.workers h (Start c.args.worker c.args.task)) (sym c.self.view_is) c.requires in
    rw (c.push_reserved.ensures.items, c.push_reserved.ensures.capacity)
    (yard_start g.N.YardName.needs g.N.YardName.workers c.self.inside.users c.self.inside.waiting.unmet.items c.self.inside.waiting.ready c.start.new.self.unmet.items c.start.new.self.ready c.self.inside.hands.items c.self.inside.turns.items (vec_capacity c.self.inside.turns) c.args.worker c.args.task c.self.invariant may c.start.ensures.unmet c.start.ensures.ready)
