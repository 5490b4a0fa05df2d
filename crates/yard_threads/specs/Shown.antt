-- What notes know of the tasks that are marked.
use Rattle.std.specs.Prelude.{ℕ, List, Bool, true, false, Option, None, slice_index_or}

abbrev pub if_marked : {X : Type 0} → Bool → Option X → Option X
if_marked true known = known
if_marked false known = None

-- what is known of a task, if it is marked
abbrev pub shown : {X : Type 0} → List Bool → (ℕ → Option X) → ℕ → Option X
shown marks known t = if_marked (slice_index_or marks t false) (known t)
