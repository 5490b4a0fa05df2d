use Rattle.tree_worlds.specs.World.{world_data}
use Rattle.tree_worlds.proofs.Keeping.{keeps_ran}
use Rattle.sh_text.specs.Commands.{command}
use Rattle.sh_text.proofs.command.run.Goals as goal

pub returns-clause-keeps : goal.returns-clause-keeps
returns-clause-keeps g c =
    keeps_ran (command c.args.files.now c.args.line.now) (world_data g.T.TreeOps.tree c.args.world.now) c.run_line.result (world_data g.T.TreeOps.tree c.run_line.new.world) c.run_line.ensures.ran
