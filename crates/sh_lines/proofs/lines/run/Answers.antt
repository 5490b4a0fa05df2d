use Rattle.tree_worlds.specs.World.{world_data}
use Rattle.tree_worlds.proofs.Keeping.{keeps_ran}
use Rattle.sh_lines.specs.Lines.{line}
use Rattle.sh_lines.proofs.lines.run.Goals as goal

pub returns-clause-keeps : goal.returns-clause-keeps
returns-clause-keeps g c =
    keeps_ran (line c.args.files.now c.args.text.now) (world_data g.T.TreeOps.tree c.args.world.now) c.run_text.result (world_data g.T.TreeOps.tree c.run_text.new.world) c.run_text.ensures.ran
