use Rattle.std.specs.Option.{option_copied}
use Rattle.tree_worlds.specs.World.{world_data}
use Rattle.sh_files.proofs.Copies.{cp_on}
use Rattle.sh_files.proofs.copying.cp.Goals as goal

pub returns-clause-ran : goal.returns-clause-ran
returns-clause-ran g c =
    cp_on c.args.files.now c.args.manner (option_copied c.args.into) c.args.operands.now c.sources_of.result.now c.in_ok-goal.goal c.copy_sources.result
    (world_data g.T.TreeOps.tree c.args.world.now) (world_data g.T.TreeOps.tree c.goal_for.new.world) (world_data g.T.TreeOps.tree c.copy_sources.new.world) c.sources_of.ensures c.in_ok-goal.ensures.ran c.copy_sources.ensures.ran
