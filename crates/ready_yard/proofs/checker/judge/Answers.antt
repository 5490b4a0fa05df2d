use Rattle.std.proofs.Common.{◌≡◌, arith, length}
use Rattle.std.proofs.lemmas.List.{get_or_default}
use Rattle.ready_yard.specs.declared.turn.Turn.TheVariants.{End}
use Rattle.ready_yard.proofs.Judging.{judged_wrong, past_more, legal_next, legal_all}
use Rattle.ready_yard.proofs.checker.judge.Goals as goal

pub returns-in-Some : goal.returns-in-Some
returns-in-Some c =
    judged_wrong c.args.graph.now c.args.workers c.args.turns.now c.loop-place.place _ c.in-Some.why c.loop-place-test.true c.loop-place.invariant.legal
    (get_or_default c.args.turns.now c.loop-place.place _ (End 0 0) c.loop-place-test.true) c.in-Some.ensures

pub loop-place-preserved : goal.loop-place-preserved
loop-place-preserved c =
    let turns = c.args.turns.now in
    let place = c.loop-place.place in
    let new = c.put.new.self in
    record {
      past = past_more c.args.graph.now c.args.workers new.begun.items new.over.items new.hands.items turns place _ c.loop-place-test.true (get_or_default turns place _ (End 0 0) c.loop-place-test.true) c.put.ensures;
      legal = legal_next c.args.graph.now c.args.workers turns place _ c.loop-place-test.true (get_or_default turns place _ (End 0 0) c.loop-place-test.true) c.loop-place.invariant.legal c.in_default.ensures;
    }

pub returns-then-is_whole : goal.returns-then-is_whole
returns-then-is_whole c =
    let all : c.loop-place.place ≡ length c.args.turns.now = omega (arith, c.loop-place-test.false, c.loop-place.auto.place-end) in
    (legal_all c.args.graph.now c.args.workers c.args.turns.now c.loop-place.place all c.loop-place.invariant.legal, c.is_whole.ensures.yes c.if-is_whole.true)
