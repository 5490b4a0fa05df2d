use Rattle.tree_ops.proofs.Walks.{end-empty}
use Rattle.tree_ops.proofs.walk.is_done.Goals as goal

pub returns : goal.returns
returns c = end-empty c.args.steps.now.items c.as_slice.result.now c.is_empty.result c.as_slice.ensures.value c.is_empty.ensures
