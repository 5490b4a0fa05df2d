use Rattle.std.proofs.Common.{◌≡◌, vec_len}
use Rattle.kc_syntax.specs.Shown.{shown}
use Rattle.kc_syntax.specs.State.{first_line}
use Rattle.kc_syntax.proofs.reader.Reader.first_line.Given as goal

abbrev pub invariant-loop-inner : goal.invariant-loop-inner
invariant-loop-inner l = first_line l.line (shown l.self).blocks ≡ first_line l.fn.line (shown l.initial.self).blocks

abbrev pub decreases-loop-inner : goal.decreases-loop-inner
decreases-loop-inner l = vec_len l.self.blocks
