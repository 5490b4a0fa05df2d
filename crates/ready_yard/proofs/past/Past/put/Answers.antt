use Rattle.std.proofs.Common.{◌++◌, ◌∷◌, [], sym, subst, arith, set, true, None}
use Rattle.ready_yard.specs.History.{MayFollow}
use Rattle.ready_yard.specs.Judged.{IsPast}
use Rattle.ready_yard.proofs.Turns.{sound_of}
use Rattle.ready_yard.proofs.Judging.{past_end}
use Rattle.ready_yard.proofs.past.Past.put.Goals as goal

pub index_mut-requires-in-End : goal.index_mut-requires-in-End
index_mut-requires-in-End c =
    let mine = subst (λ x. MayFollow c.args.graph.now c.args.workers c.args.past.now x) c.in-End.is c.requires.turn in
    let o = (sound_of c.args.graph.now c.args.workers c.args.past.now c.requires.legal).open_ c.in-End.worker c.in-End.task mine in
    omega (arith, c.requires.past.over_len, o.2)

pub returns-in-End : goal.returns-in-End
returns-in-End c =
    let mine = subst (λ x. MayFollow c.args.graph.now c.args.workers c.args.past.now x) c.in-End.is c.requires.turn in
    let old = c.args.self.now in
    subst (λ x. IsPast c.args.graph.now c.args.workers old.begun.items (set old.over.items c.in-End.task true) (set old.hands.items c.in-End.worker None) (c.args.past.now ++ x ∷ [])) (sym c.in-End.is)
    (past_end c.args.graph.now c.args.workers old.begun.items old.over.items old.hands.items c.args.past.now c.in-End.worker c.in-End.task c.requires.past c.requires.legal mine)
