use Rattle.ready_yard.specs.Kept.{AreFirstReady}
use Rattle.ready_yard.proofs.waiting.met_from_the_start.Given as goal

abbrev pub invariant-loop-task : goal.invariant-loop-task
invariant-loop-task l = AreFirstReady l.unmet l.task l.ready
