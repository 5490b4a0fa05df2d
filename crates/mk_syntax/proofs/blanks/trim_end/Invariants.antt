use Rattle.std.proofs.Common.{◌≡◌, length}
use Rattle.mk_syntax.specs.Blanks.{trim_end}
use Rattle.mk_syntax.proofs.blanks.trim_end.Given as goal

abbrev pub invariant-loop-byte : goal.invariant-loop-byte
invariant-loop-byte l = trim_end l.text ≡ trim_end l.rest

abbrev pub decreases-loop-byte : goal.decreases-loop-byte
decreases-loop-byte l = length l.rest
