-- What a worker hands back.
use Rattle.std.specs.Prelude.{◌≡◌, ℕ, ◌<◌, List, length, Option}
use Rattle.ready_yard.specs.declared.yard.Take.{Take}
use Rattle.ready_yard.specs.declared.yard.Take.TheVariants.{Job, Wait, End}

-- notes of a board, and a place for the value of each task
abbrev pub IsReport : List ℕ → ℕ → List ℕ → List (Option ℕ) → Type 0
IsReport board count of found = (of ≡ board) × (length found ≡ count)

-- a task that is taken is one of so many
abbrev pub IsJobOf : ℕ → Take → Type 0
IsJobOf n (Job t) = t < n
IsJobOf n Wait = Unit {0}
IsJobOf n End = Unit {0}
