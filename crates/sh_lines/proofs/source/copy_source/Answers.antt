use Rattle.tree_worlds.specs.World.{world_data}
use Rattle.tree_worlds.proofs.Keeping.{keeps_ran}
use Rattle.sh_lines.specs.Source.{copy}
use Rattle.sh_lines.proofs.source.copy_source.Goals as goal

pub returns-clause-keeps : goal.returns-clause-keeps
returns-clause-keeps g c =
    let world = world_data g.T.TreeOps.tree c.args.world.now in
    keeps_ran (copy c.args.files.now world) world c.copy.result (world_data g.T.TreeOps.tree c.copy.new.world) c.copy.ensures.ran
