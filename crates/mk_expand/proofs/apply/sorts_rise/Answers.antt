use Rattle.mk_expand.proofs.Sorts.{sort_of}
use Rattle.mk_expand.proofs.apply.sorts_rise.Goals as goal

pub returns : goal.returns
returns c words = sort_of words
