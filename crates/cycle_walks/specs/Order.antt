-- Orders of the nodes of a graph.
use Rattle.std.specs.Prelude.{◌≡◌, ℕ, ◌<◌, ◌↔◌, Bool, true, List, length, take, slice_index, Contains}
use Rattle.cycle_walks.specs.declared.depth_first.Found.{Found}
use Rattle.cycle_walks.specs.declared.depth_first.Found.TheVariants.{Order, Cycle}
use Rattle.cycle_walks.specs.Graph.{Rows, names}
use Rattle.cycle_walks.specs.Walks.{OnCycle}

-- a node may stand after a list: it does not stand in it, and all that it names do
pub record MayFollow (names : ℕ → ℕ → Bool) (past : List ℕ) (node : ℕ) : Type 0 where
  pub fresh : Contains past node → ⊥
  pub named : (other : ℕ) → names node other ≡ true → Contains past other

-- each node of a list may stand after those before it
abbrev pub AreInOrder : (ℕ → ℕ → Bool) → List ℕ → Type 0
AreInOrder names order = (i : ℕ) → i < length order → MayFollow names (take i order) (slice_index order i)

-- an order of the nodes below a count: it has them and no others, each once, and each after all that it names
pub record IsOrder (count : ℕ) (names : ℕ → ℕ → Bool) (order : List ℕ) : Type 0 where
  pub nodes : (node : ℕ) → Contains order node ↔ (node < count)
  pub in_order : AreInOrder names order

-- an order of a graph's nodes, or one of its nodes that is on a cycle
abbrev pub IsFound : Rows → Found → Type 0
IsFound rows (Order order) = IsOrder (length rows) (names rows) order
IsFound rows (Cycle node) = (node < length rows) × OnCycle (names rows) node
