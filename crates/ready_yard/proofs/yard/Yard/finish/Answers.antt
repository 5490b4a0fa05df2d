use Rattle.std.proofs.Common.{◌≡◌, ◌<◌, ◌∙◌, sym, subst, arith, Some, length}
use Rattle.std.specs.List.{All}
use Rattle.std.specs.Vec.{vec_capacity}
use Rattle.cycle_walks.proofs.Sights.{row_below}
use Rattle.ready_yard.specs.History.{runs}
use Rattle.ready_yard.specs.Kept.{IsMet}
use Rattle.ready_yard.proofs.Turns.{spare_end, room_end}
use Rattle.ready_yard.proofs.Yards.{yard_end}
use Rattle.ready_yard.proofs.yard.Yard.finish.Goals as goal

pub row-requires : goal.row-requires
row-requires g c =
    let mine = subst (λ h. runs h c.args.worker ≡ Some c.args.task) (sym c.self.view_is) c.requires in
    let o = c.self.invariant.sound.open_ c.args.worker c.args.task mine in
    omega (arith, c.self.invariant.users_len, o.2)

pub meet_all-requires-clause-users : goal.meet_all-requires-clause-users
meet_all-requires-clause-users g c =
    let y = c.self.invariant in
    let users = c.self.inside.users in
    subst (λ n. All (λ other. other < n) c.row.result.now) (y.users_len ∙ sym y.waiting.sized)
    (subst (All (λ other. other < length users)) (sym c.row.ensures.row) (row_below users c.row.ensures.graph c.args.task))

pub push_reserved-requires : goal.push_reserved-requires
push_reserved-requires g c =
    let mine = subst (λ h. runs h c.args.worker ≡ Some c.args.task) (sym c.self.view_is) c.requires in
    let o = c.self.invariant.sound.open_ c.args.worker c.args.task mine in
    let less = spare_end g.N.YardName.needs c.self.inside.turns.items (vec_capacity c.self.inside.turns) c.args.task c.self.invariant.room_is o.2 o.4 in
    omega (arith, less)

pub invariant_of-self : goal.invariant_of-self
invariant_of-self g c =
    let mine = subst (λ h. runs h c.args.worker ≡ Some c.args.task) (sym c.self.view_is) c.requires in
    rw (c.push_reserved.ensures.items, c.push_reserved.ensures.capacity)
    (yard_end g.N.YardName.needs g.N.YardName.workers c.self.inside.users c.self.inside.waiting.unmet.items c.self.inside.waiting.ready c.meet_all.new.self.unmet.items c.meet_all.new.self.ready c.self.inside.hands.items c.self.inside.turns.items (vec_capacity c.self.inside.turns) c.args.worker c.args.task c.self.invariant mine
    (subst (λ us. IsMet c.self.inside.waiting.unmet.items c.self.inside.waiting.ready us c.meet_all.new.self.unmet.items c.meet_all.new.self.ready) c.row.ensures.row c.meet_all.ensures))

pub returns-clause-limit : goal.returns-clause-limit
returns-clause-limit g c =
    let mine = subst (λ h. runs h c.args.worker ≡ Some c.args.task) (sym c.self.view_is) c.requires in
    let o = c.self.invariant.sound.open_ c.args.worker c.args.task mine in
    let r = room_end g.N.YardName.needs c.self.inside.turns.items (vec_capacity c.self.inside.turns) c.args.worker c.args.task c.self.invariant.room_is o.2 o.4 in
    rw c.push_reserved.ensures.items (omega (arith, r.count))
