use Rattle.std.proofs.Common.{◌≡◌, map, take}
use Rattle.pkg_steps.specs.Runs.{plan_of, task_of, HasTaken, IsHeldRun}
use Rattle.serial_build.proofs.serial.run_task.Given as goal

abbrev pub invariant-loop-need : goal.invariant-loop-need
invariant-loop-need g l =
    (plan_of l.run ≡ l.plan) × (task_of l.run ≡ l.task) × IsHeldRun g.T.TreeOps.tree g.T.TreeOps.sealed l.run
    × HasTaken g.T.TreeOps.tree l.run (map (g.S.Shelves.shelves l.shelves) (take l.need-index l.need-items))
