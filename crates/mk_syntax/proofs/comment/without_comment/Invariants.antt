use Rattle.std.proofs.Common.{◌≡◌, ◌++◌, length}
use Rattle.mk_syntax.specs.Comment.{without_comment}
use Rattle.mk_syntax.proofs.comment.without_comment.Given as goal

abbrev pub invariant-loop-byte : goal.invariant-loop-byte
invariant-loop-byte l = without_comment 0 l.line ≡ l.kept.items ++ without_comment 0 l.rest

abbrev pub decreases-loop-byte : goal.decreases-loop-byte
decreases-loop-byte l = length l.rest
