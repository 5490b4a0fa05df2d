use Rattle.std.proofs.Common.{◌≡◌, length}
use Rattle.mk_expand.specs.Words.{is_blank, without_front}
use Rattle.mk_expand.proofs.blanks.skip_blanks.Given as goal

abbrev pub invariant-loop-first : goal.invariant-loop-first
invariant-loop-first l = without_front is_blank l.text ≡ without_front is_blank l.rest

abbrev pub decreases-loop-first : goal.decreases-loop-first
decreases-loop-first l = length l.rest
