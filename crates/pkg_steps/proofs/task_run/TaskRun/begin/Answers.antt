use Rattle.std.proofs.Common.{rules, ◌≡◌, refl, sym, ap, subst}
use Rattle.tree_ops.specs.declared.pen.Pen.{Pen}
use Rattle.tree_worlds.specs.World.{WorldData, world_data}
use Rattle.pkg_steps.specs.Filling.{begun, first_unbuilt}
use Rattle.pkg_steps.specs.Runs.{AreForeign}
use Rattle.pkg_steps.proofs.Taking.{numbered-none, started}
use Rattle.pkg_steps.proofs.Untouched.{foreign-empty}
use Rattle.pkg_steps.proofs.task_run.TaskRun.begin.Goals as goal

pub returns-clause-taken : goal.returns-clause-taken
returns-clause-taken g c =
    let new : world_data g.T.TreeOps.tree c.in_ok-world.world ≡ begun c.row-row.result.now c.args.task = search rules in
    record {
      count = refl;
      unbuilt = sym (ap first_unbuilt (numbered-none _));
      world = λ row there none. started c.args.plan.now row c.row-row.result.now c.args.task (world_data g.T.TreeOps.tree c.in_ok-world.world) _ there c.row-row.ensures.row new;
    }

pub returns-clause-held : goal.returns-clause-held
returns-clause-held g c = record {
  task = c.requires.task;
  own = ap (λ (pen : Pen). pen.task) c.in_ok-world.ensures.pen;
  world = record {
    held = c.in_ok-world.ensures.held;
    foreign = subst (λ (world : WorldData). AreForeign world.trees world.pen) (sym c.in_ok-world.ensures.new) (foreign-empty _);
  };
}
