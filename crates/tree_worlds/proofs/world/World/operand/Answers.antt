use Rattle.tree_worlds.specs.World.{world_data}
use Rattle.tree_worlds.proofs.Walking.{walk-given}
use Rattle.tree_worlds.proofs.world.World.operand.Goals as goal

pub returns-clause-walk : goal.returns-clause-walk
returns-clause-walk g c = walk-given (world_data g.T.TreeOps.tree c.args.self.now) c.args.files.now c.args.word.now c.named.result c.named.ensures
