-- Finite directed graphs, by the row of each node.
use Rattle.std.specs.Prelude.{◌≡◌, ℕ, ◌<◌, ◌^◌, Bool, true, List, [], length, nat_eq, slice_index_or}
use Rattle.std.specs.List.{list_any}

-- for each node, numbered from 0, the nodes that it names
abbrev pub Rows : Type 0
Rows = List (List ℕ)

-- the nodes that a node names; none where there is no such node
abbrev pub row : Rows → ℕ → List ℕ
row rows node = slice_index_or rows node []

-- whether a node stands in a list
abbrev pub is_in : List ℕ → ℕ → Bool
is_in nodes node = list_any (nat_eq node) nodes

-- whether a node names another
abbrev pub names : Rows → ℕ → ℕ → Bool
names rows node other = is_in (row rows node) other

-- a graph: its nodes can be numbered in 32 bits, and each node that is named is one of them
pub record IsGraph (rows : Rows) : Type 0 where
  pub few : length rows < 2 ^ 32
  pub closed : (node other : ℕ) → names rows node other ≡ true → other < length rows
