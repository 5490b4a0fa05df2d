-- The order in which tasks are taken.
use Rattle.std.specs.Prelude.{ℕ, ◌<◌, List, length, take, slice_index, Contains}
use Rattle.cycle_walks.specs.Graph.{names}
use Rattle.cycle_walks.specs.Walks.{IsLeast, OnCycle}
use Rattle.dep_graph.specs.declared.graph.OrderFault.{OrderFault}
use Rattle.dep_graph.specs.declared.graph.OrderFault.TheVariants.{CycleAt, Memory}
use Rattle.dep_graph.specs.Needs.{Needs, needs_of}

-- a task is ready after others: it isn't among them, and all that it needs are
pub record IsReady (needs : Needs) (past : List ℕ) (task : ℕ) : Type 0 where
  pub inside : task < length needs
  pub fresh : Contains past task → ⊥
  pub met : (need : ℕ) → Contains (needs_of needs task) need → Contains past need

-- the order of the tasks: it has all of them, and at each place stands the least task that is ready after those before it
pub record IsOrder (needs : Needs) (order : List ℕ) : Type 0 where
  pub all : (task : ℕ) → task < length needs → Contains order task
  pub least : (i : ℕ) → i < length order → IsLeast (IsReady needs (take i order)) (slice_index order i)

-- why there is no order: the least task on a cycle
abbrev pub IsFault : Needs → OrderFault → Type 0
IsFault needs (CycleAt task) = IsLeast (OnCycle (names needs)) task
IsFault needs Memory = Unit {0}
