use Rattle.std.proofs.Common.{◌≡◌, length, map, take}
use Rattle.ready_yard.proofs.waiting.counts.Given as goal

abbrev pub invariant-loop-task : goal.invariant-loop-task
invariant-loop-task l = l.counts.items ≡ map length (take l.task l.graph)
