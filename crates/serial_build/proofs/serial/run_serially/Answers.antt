use Rattle.std.proofs.Common.{◌∙◌}
use Rattle.task_shelves.specs.Shelf.{shelf_data}
use Rattle.serial_build.specs.Serial.{shelves_data}
use Rattle.serial_build.proofs.InTurn.{begins_over, goes_over, fresh_over}
use Rattle.serial_build.proofs.serial.run_serially.Goals as goal

pub loop-task-init : goal.loop-task-init
loop-task-init g c = record {
  count = c.in_ok-done.ensures.count ∙ c.count.ensures.count;
  goes = begins_over c.args.plan.now (g.C.Commands.shell c.args.commands.now) c.requires.keeps c.order-task-items.result.now c.order-task-items.ensures.order
      (shelves_data g.T.TreeOps.tree c.in_ok-done.done) c.in_ok-done.ensures.none;
}

pub run_task-requires-clause-foreign : goal.run_task-requires-clause-foreign
run_task-requires-clause-foreign g c =
    fresh_over c.args.plan.now (g.C.Commands.shell c.args.commands.now) c.requires.keeps c.order-task-items.result.now c.order-task-items.ensures.order c.order-task-items.ensures.plan.order
    c.loop-task.task-index (shelves_data g.T.TreeOps.tree c.loop-task.done) c.loop-task-test.true c.loop-task.invariant.goes

pub loop-task-preserved : goal.loop-task-preserved
loop-task-preserved g c = record {
  count = c.set.ensures.count ∙ c.loop-task.invariant.count;
  goes = goes_over c.args.plan.now (g.C.Commands.shell c.args.commands.now) c.requires.keeps c.order-task-items.result.now c.order-task-items.ensures.order c.loop-task.task-index
      (shelves_data g.T.TreeOps.tree c.loop-task.done) (shelves_data g.T.TreeOps.tree c.set.new.self) (shelf_data g.T.TreeOps.tree c.in_ok-shelf.shelf) c.loop-task-test.true
      c.set.ensures.put c.in_ok-shelf.ensures.shelf c.loop-task.invariant.goes;
}
