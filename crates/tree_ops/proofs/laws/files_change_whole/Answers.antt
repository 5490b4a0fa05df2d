use Rattle.tree_ops.proofs.Rewriting.{in_place, anew}
use Rattle.tree_ops.proofs.laws.files_change_whole.Goals as goal

pub returns-clause-own : goal.returns-clause-own
returns-clause-own c = in_place

pub returns-clause-others : goal.returns-clause-others
returns-clause-others c = anew
