use Rattle.tree_worlds.specs.World.{world_data}
use Rattle.tree_worlds.specs.Operand.{operand_of}
use Rattle.sh_places.proofs.Ran.{ran_both}
use Rattle.sh_places.proofs.finding.read.Goals as goal

pub returns-clause-ran : goal.returns-clause-ran
returns-clause-ran g c = ran_both (operand_of (world_data g.T.TreeOps.tree c.args.world.now) c.args.files.now c.args.word.now) c.operand.result (world_data g.T.TreeOps.tree c.args.world.now) c.operand.ensures.named
