use Rattle.mk_syntax.proofs.RemainLaws.{keeps, kept_is}
use Rattle.mk_syntax.proofs.comment.comments_end.Goals as goal

pub returns-clause-some : goal.returns-clause-some
returns-clause-some c = keeps

pub returns-clause-one : goal.returns-clause-one
returns-clause-one c = λ line kept pieces. kept_is pieces
