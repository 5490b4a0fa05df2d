use Rattle.mk_expand.proofs.References.{reference_is_exact}
use Rattle.mk_expand.proofs.expander.reference_is_exact.Goals as goal

pub returns : goal.returns
returns c vars locals name = reference_is_exact vars locals name
