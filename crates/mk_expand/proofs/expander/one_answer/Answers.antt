use Rattle.mk_expand.proofs.Exactness.{one_answer}
use Rattle.mk_expand.proofs.expander.one_answer.Goals as goal

pub returns : goal.returns
returns c vars depth scope text = one_answer vars depth scope text
