use Rattle.std.specs.Vec.{vec_len}
use Rattle.dot_config.proofs.Last.{IsCut}
use Rattle.dot_config.proofs.reader.last_wishes.Given as goal

abbrev pub invariant-loop-wish : goal.invariant-loop-wish
invariant-loop-wish l = IsCut l.fn.all.items l.all.items l.last.items l.later

abbrev pub decreases-loop-wish : goal.decreases-loop-wish
decreases-loop-wish l = vec_len l.all
