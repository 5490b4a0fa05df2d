-- What is reached from a node: what is seen so far, and what is still to be looked at.
use Rattle.std.specs.Prelude.{ℕ, Bool, true, false, List, [], ◌∷◌, ◌++◌, length, filter, fold, slice_index_or, slice_set, replicate, if◌then◌else◌}
use Rattle.std.specs.List.{range_with_len}
use Rattle.cycle_walks.specs.declared.reach.Reach.{Reach}

-- whether each node is seen; seen nodes whose rows are still to be looked at
pub record Sight : Type 0 where
  pub seen : List Bool
  pub todo : List ℕ

abbrev pub shown : Reach → Sight
shown reach = record { seen = reach.seen.items; todo = reach.todo.items }

abbrev pub unseen : ℕ → Sight
unseen count = record { seen = replicate count false; todo = [] }

-- whether a node is seen
abbrev pub is_seen : List Bool → ℕ → Bool
is_seen seen node = slice_index_or seen node false

-- a node that is seen for the first time is to be looked at
abbrev pub see : Sight → ℕ → Sight
see s node = if is_seen s.seen node then s else record { seen = slice_set s.seen node true; todo = s.todo ++ node ∷ [] }

abbrev pub see_all : Sight → List ℕ → Sight
see_all s nodes = fold see s nodes

-- the nodes that are seen, rising
abbrev pub seen_nodes : List Bool → List ℕ
seen_nodes seen = filter (is_seen seen) (range_with_len 0 (length seen))
