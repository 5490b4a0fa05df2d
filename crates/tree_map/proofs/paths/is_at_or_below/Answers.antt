use Rattle.tree_map.proofs.Moves.{starts-is}
use Rattle.tree_map.proofs.paths.is_at_or_below.Goals as goal

pub returns : goal.returns
returns c = starts-is c.args.head.now c.args.path.now c.starts_with.result c.starts_with.ensures
