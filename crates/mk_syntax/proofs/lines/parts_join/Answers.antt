use Rattle.mk_syntax.proofs.JoinLaws.{stay_apart, becomes_one_space, count_on}
use Rattle.mk_syntax.proofs.lines.parts_join.Goals as goal

pub returns-clause-apart : goal.returns-clause-apart
returns-clause-apart c = stay_apart

pub returns-clause-joined : goal.returns-clause-joined
returns-clause-joined c = λ front back line before after next. becomes_one_space front line before after next back

pub returns-clause-counted : goal.returns-clause-counted
returns-clause-counted c = λ front back part. count_on front part back
