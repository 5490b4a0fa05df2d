use Rattle.std.proofs.Common.{arith}
use Rattle.ready_yard.proofs.Waits.{counted_length, counted_at}
use Rattle.ready_yard.proofs.waiting.counts.Goals as goal

pub returns-clause-len : goal.returns-clause-len
returns-clause-len c =
    counted_length c.args.graph.now c.loop-task.counts.items c.loop-task.task c.loop-task.invariant
    (omega (arith, c.count-count.ensures.count, c.loop-task.auto.task-end, c.loop-task-test.false))

pub returns-clause-counts : goal.returns-clause-counts
returns-clause-counts c =
    counted_at c.args.graph.now c.loop-task.counts.items c.loop-task.task c.loop-task.invariant
    (omega (arith, c.count-count.ensures.count, c.loop-task.auto.task-end, c.loop-task-test.false))
