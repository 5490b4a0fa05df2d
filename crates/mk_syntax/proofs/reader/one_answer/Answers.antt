use Rattle.mk_syntax.proofs.Answers.{one_recipe, one_fault, not_both, some_answer}
use Rattle.mk_syntax.proofs.Onward.{goes_on, begun}
use Rattle.mk_syntax.proofs.reader.one_answer.Goals as goal

pub returns-clause-recipe : goal.returns-clause-recipe
returns-clause-recipe c = one_recipe

pub returns-clause-fault : goal.returns-clause-fault
returns-clause-fault c = one_fault

pub returns-clause-apart : goal.returns-clause-apart
returns-clause-apart c = not_both

pub returns-clause-some : goal.returns-clause-some
returns-clause-some c = some_answer

pub returns-clause-onward : goal.returns-clause-onward
returns-clause-onward c = goes_on

pub returns-clause-begun : goal.returns-clause-begun
returns-clause-begun c = begun
