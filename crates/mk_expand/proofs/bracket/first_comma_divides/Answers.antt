use Rattle.mk_expand.proofs.Commas.{first_comma}
use Rattle.mk_expand.proofs.bracket.first_comma_divides.Goals as goal

pub returns : goal.returns
returns c kind text = first_comma kind text
