use Rattle.std.proofs.Common.{length, sym, arith}
use Rattle.std.proofs.lemmas.Bool.{eqb-false}
use Rattle.root_image.proofs.Writing.{pieces-turn}
use Rattle.root_image.proofs.text.push_bytes.Goals as goal

pub loop-rest-preserved : goal.loop-rest-preserved
loop-rest-preserved c =
    let some = eqb-false (length c.loop-rest.rest.now) 0 (sym c.loop-rest-test.ensures) in
    pieces-turn c.loop-rest.text.items c.push_piece.new.text.items c.loop-rest.rest.now c.split_at.result.0.now c.split_at.result.1.now _ c.min.result (omega arith) (omega arith) c.split_at.ensures.front c.split_at.ensures.back
    c.in_ok-push_piece.ensures c.loop-rest.invariant
