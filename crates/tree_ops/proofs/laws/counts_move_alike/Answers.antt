use Rattle.tree_ops.proofs.Counting.{names-changed, texts-changed, root-counts}
use Rattle.tree_ops.proofs.laws.counts_move_alike.Goals as goal

pub returns-clause-names : goal.returns-clause-names
returns-clause-names c = names-changed

pub returns-clause-texts : goal.returns-clause-texts
returns-clause-texts c = texts-changed

pub returns-clause-roots : goal.returns-clause-roots
returns-clause-roots c = root-counts
