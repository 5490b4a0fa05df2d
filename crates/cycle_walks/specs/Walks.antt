-- Walks and cycles. A directed graph over the numbers is given by what each number names: a walk goes from a node to one that it names.
use Rattle.std.specs.Prelude.{◌≡◌, ℕ, ◌≤◌, Bool, true, List, [], ◌∷◌, ◌++◌}

-- each node is named by the one before it, the first of them by the node that the walk leaves
abbrev pub IsWalk : (ℕ → ℕ → Bool) → ℕ → List ℕ → Type 0
IsWalk names node [] = Unit {0}
IsWalk names node (next ∷ rest) = (names node next ≡ true) × IsWalk names next rest

-- a walk of one or more steps leads from a node to another
abbrev pub Reaches : (ℕ → ℕ → Bool) → ℕ → ℕ → Type 0
Reaches names node other = (between : List ℕ) × IsWalk names node (between ++ other ∷ [])

-- a walk of one or more steps leads from a node back to it
abbrev pub OnCycle : (ℕ → ℕ → Bool) → ℕ → Type 0
OnCycle names node = Reaches names node node

-- the least number of which something holds
pub record IsLeast (P : ℕ → Type 0) (least : ℕ) : Type 0 where
  pub holds : P least
  pub below : (other : ℕ) → P other → least ≤ other
