use Rattle.std.proofs.Common.{rules}
use Rattle.tree_worlds.proofs.Empty.{IsHeldWorld-empty}
use Rattle.tree_worlds.proofs.world.World.new.Goals as goal

pub returns-clause-held : goal.returns-clause-held
returns-clause-held g c = IsHeldWorld-empty g.T.TreeOps.tree g.T.TreeOps.sealed _ c.in_ok-trees.ensures (search rules) (search rules) (search rules)
