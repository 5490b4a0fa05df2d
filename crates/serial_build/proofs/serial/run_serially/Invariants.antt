use Rattle.std.proofs.Common.{◌≡◌, length}
use Rattle.serial_build.specs.Serial.{shelves_data}
use Rattle.serial_build.proofs.InTurn.{Goes}
use Rattle.serial_build.proofs.serial.run_serially.Given as goal

-- to go on from here is to begin at first; what stands was drawn by tasks that were run
abbrev pub invariant-loop-task : goal.invariant-loop-task
invariant-loop-task g l = record {
  count : length l.done ≡ length l.plan.rows;
  goes : Goes l.plan (g.C.Commands.shell l.commands) l.task-items l.task-index (shelves_data g.T.TreeOps.tree l.done);
}
