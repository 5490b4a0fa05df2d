use Rattle.tree_ops.proofs.Origins.{before-changed}
use Rattle.tree_ops.proofs.laws.other_files_stay.Goals as goal

pub returns : goal.returns
returns c = before-changed
