use Rattle.std.proofs.Common.{ℕ, ◌<◌}
use Rattle.cycle_walks.specs.Graph.{names}
use Rattle.cycle_walks.specs.Walks.{OnCycle}
use Rattle.cycle_walks.proofs.least.first_on_cycle.Given as goal

abbrev pub invariant-loop-node : goal.invariant-loop-node
invariant-loop-node l = (node : ℕ) → node < l.node → OnCycle (names l.graph) node → ⊥
