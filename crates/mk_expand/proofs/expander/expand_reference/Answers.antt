use Rattle.mk_expand.specs.Reference.{reference_answer}
use Rattle.mk_expand.proofs.expander.expand_reference.Goals as goal

pub returns-clause-value : goal.returns-clause-value
unfolding reference_answer
returns-clause-value c = c.reference_within.ensures.value

pub returns-clause-fault : goal.returns-clause-fault
unfolding reference_answer
returns-clause-fault c = c.reference_within.ensures.fault
