use Rattle.std.proofs.Common.{◌≡◌, length}
use Rattle.mk_syntax.specs.Blanks.{skip_blanks}
use Rattle.mk_syntax.proofs.blanks.skip_blanks.Given as goal

abbrev pub invariant-loop-byte : goal.invariant-loop-byte
invariant-loop-byte l = skip_blanks l.text ≡ skip_blanks l.rest

abbrev pub decreases-loop-byte : goal.decreases-loop-byte
decreases-loop-byte l = length l.rest
