use Rattle.root_image.proofs.Sized.{pair-turn}
use Rattle.root_image.proofs.line.bytes.Goals as goal

pub loop-high-preserved : goal.loop-high-preserved
loop-high-preserved c =
    pair-turn c.loop-high.bytes.items c.push.new.self.items c.loop-high.rest.now c.in-Some.more.now _ c.in-Some.high c.in-Some.low c.in-Some-byte.byte c.in-Some.ensures c.in-Some-byte.ensures
    c.in_ok-push-in-Some-byte.ensures.items c.loop-high.invariant
