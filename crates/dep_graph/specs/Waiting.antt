-- The tasks that are taken so far, and how many needs of each other task aren't.
use Rattle.std.specs.Prelude.{◌≡◌, ℕ, ◌-◌, Bool, false, List, [], ◌∷◌, ◌++◌, length, map, fold, slice_index_or, slice_set, nat_eq, ◌==◌}
use Rattle.std.specs.List.{count_by}
use Rattle.cycle_walks.specs.Graph.{row}
use Rattle.dep_graph.specs.declared.least_first.Stand.{Stand}
use Rattle.dep_graph.specs.declared.least_first.Stand.TheVariants.{Waits, Taken}
use Rattle.dep_graph.specs.declared.least_first.Waiting.{Waiting}
use Rattle.dep_graph.specs.Needs.{Needs, needs_of}

pub record State : Type 0 where
  pub stands : List Stand
  pub taken : List ℕ

abbrev pub shown : Waiting → State
shown waiting = record { stands = waiting.stands.items; taken = waiting.taken.items }

abbrev pub stand_at : List Stand → ℕ → Stand
stand_at stands task = slice_index_or stands task Taken

-- nothing is taken yet
abbrev pub nothing_taken : Needs → State
nothing_taken needs = record { stands = map (λ row. Waits (length row)) needs; taken = [] }

-- a task that waits for nothing
abbrev pub is_ready : Stand → Bool
is_ready (Waits count) = count == 0
is_ready Taken = false

-- one need fewer
abbrev pub fewer : Stand → Stand
fewer (Waits count) = Waits (count - 1)
fewer Taken = Taken

-- the same for each of a list of tasks, as often as it stands there
abbrev pub fewer_at : List Stand → List ℕ → List Stand
fewer_at stands tasks = fold (λ s task. slice_set s task (fewer (stand_at s task))) stands tasks

-- a task is taken, and those that need it wait for one fewer
abbrev pub taken_next : State → ℕ → List ℕ → State
taken_next s task users = record { stands = fewer_at (slice_set s.stands task Taken) users; taken = s.taken ++ task ∷ [] }

-- how often a task stands in a list
abbrev pub count_of : ℕ → List ℕ → ℕ
count_of task tasks = count_by (nat_eq task) tasks

-- a task stands among the users of another as often as that stands among its needs
abbrev pub AreUsers : Needs → Needs → Type 0
AreUsers needs users = (task user : ℕ) → count_of user (row users task) ≡ count_of task (needs_of needs user)

-- a task becomes a user of each of its needs
abbrev pub used_by : Needs → ℕ → List ℕ → Needs
used_by users task needs = fold (λ g need. slice_set g need (row g need ++ task ∷ [])) users needs
