use Rattle.std.proofs.Common.{◌≡◌, length, map, take}
use Rattle.dep_graph.specs.declared.least_first.Stand.TheVariants.{Waits}
use Rattle.dep_graph.proofs.least_first.Waiting.new.Given as goal

abbrev pub invariant-loop-task : goal.invariant-loop-task
invariant-loop-task l = l.stands.items ≡ map (λ row. Waits (length row)) (take l.task l.graph)
