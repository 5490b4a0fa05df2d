use Rattle.std.proofs.Common.{◌≡◌, length}
use Rattle.mk_expand.specs.Lists.{replaced}
use Rattle.mk_expand.specs.Draft.{put}
use Rattle.mk_expand.proofs.apply.put_each_replaced.Given as goal

abbrev pub invariant-loop-out : goal.invariant-loop-out
invariant-loop-out l = put (replaced l.from l.to 0 l.text) l.initial.out ≡ put (replaced l.from l.to 0 l.rest) l.out

abbrev pub decreases-loop-out : goal.decreases-loop-out
decreases-loop-out l = length l.rest
