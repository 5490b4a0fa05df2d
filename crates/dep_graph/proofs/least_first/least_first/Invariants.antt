use Rattle.std.proofs.Common.{◌-◌, length}
use Rattle.dep_graph.specs.Waiting.{shown}
use Rattle.dep_graph.proofs.Takings.{IsWaiting}
use Rattle.dep_graph.proofs.least_first.least_first.Given as goal

abbrev pub invariant-loop-task : goal.invariant-loop-task
invariant-loop-task l = IsWaiting l.graph (shown l.waiting)

abbrev pub decreases-loop-task : goal.decreases-loop-task
decreases-loop-task l = length l.graph - length l.waiting.taken.items
