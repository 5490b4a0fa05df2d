use Rattle.tree_ops.proofs.Renaming.{moved-whole, moved-nowhere}
use Rattle.tree_ops.proofs.laws.moves_are_whole.Goals as goal

pub returns-clause-moved : goal.returns-clause-moved
returns-clause-moved c = moved-whole

pub returns-clause-same : goal.returns-clause-same
returns-clause-same c = moved-nowhere
