use Rattle.std.proofs.Common.{◌≡◌, length}
use Rattle.mk_expand.specs.Words.{is_white, without_back}
use Rattle.mk_expand.proofs.blanks.trim_end.Given as goal

abbrev pub invariant-loop-last : goal.invariant-loop-last
invariant-loop-last l = without_back is_white l.text ≡ without_back is_white l.rest

abbrev pub decreases-loop-last : goal.decreases-loop-last
decreases-loop-last l = length l.rest
