use Rattle.std.proofs.Common.{◌≡◌, length}
use Rattle.mk_expand.specs.Words.{is_white, without_front}
use Rattle.mk_expand.proofs.blanks.trim_start.Given as goal

abbrev pub invariant-loop-first : goal.invariant-loop-first
invariant-loop-first l = without_front is_white l.text ≡ without_front is_white l.rest

abbrev pub decreases-loop-first : goal.decreases-loop-first
decreases-loop-first l = length l.rest
