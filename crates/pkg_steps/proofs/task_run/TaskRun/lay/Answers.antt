use Rattle.std.proofs.Common.{◌∙◌}
use Rattle.tree_worlds.specs.World.{world_data}
use Rattle.pkg_steps.proofs.Untouched.{filled-task, filled-foreign}
use Rattle.pkg_steps.proofs.task_run.TaskRun.lay.Goals as goal

pub returns-in-Ok-clause-held : goal.returns-in-Ok-clause-held
returns-in-Ok-clause-held g c =
    let tree = g.T.TreeOps.tree in
    record {
      task = c.requires.held.task;
      own = filled-task c.args.area (tree c.args.from.now) (world_data tree c.args.self.now.world) c.fill.result (world_data tree c.fill.new.self) c.fill.ensures.put ∙ c.requires.held.own;
      world = record {
        held = c.fill.ensures.held;
        foreign = filled-foreign c.args.area (tree c.args.from.now) (world_data tree c.args.self.now.world) c.fill.result (world_data tree c.fill.new.self) c.requires.held.world.foreign c.requires.foreign c.fill.ensures.put;
      };
    }
