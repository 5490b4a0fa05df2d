-- What tasks need.
use Rattle.std.specs.Prelude.{◌≡◌, ℕ, ◌≤◌, ◌⊎◌, ◌↔◌, List, length, Contains}
use Rattle.std.specs.List.Sorted.{IsStrictlyIncreasing}
use Rattle.cycle_walks.specs.Graph.{Rows, row, IsGraph}

-- for each task, numbered from 0, the tasks that it needs
abbrev pub Needs : Type 0
Needs = Rows

abbrev pub needs_of : Needs → ℕ → List ℕ
needs_of needs task = row needs task

-- at most 512 tasks; each that is needed is one of them; the needs of a task rise
pub record IsNeeds (needs : Needs) : Type 0 where
  pub few : length needs ≤ 512
  pub graph : IsGraph needs
  pub rising : (task : ℕ) → IsStrictlyIncreasing (needs_of needs task)

-- one task needs another from then on, and nothing else changes
pub record IsAdded (old : Needs) (task on : ℕ) (new : Needs) : Type 0 where
  pub count : length new ≡ length old
  pub needs : (other need : ℕ) → Contains (needs_of new other) need ↔ (Contains (needs_of old other) need ⊎ ((other ≡ task) × (need ≡ on)))
