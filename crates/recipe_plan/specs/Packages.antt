-- What packages of a plan depend on. A package is named by its prep task.
use Rattle.std.specs.Prelude.{◌≡◌, ◌≢◌, ◌↔◌, ℕ, ◌/◌, ◌==◌, ◌&&◌, not, Bool, List, ◌++◌, Contains}
use Rattle.std.specs.List.{list_any}
use Rattle.dep_graph.specs.Needs.{Needs, needs_of}
use Rattle.plan_rows.specs.declared.rows.Part.TheVariants.{Prep, Make}
use Rattle.recipe_plan.specs.Needs.{task_at}

-- the place of the package that a task is one of
abbrev pub place_of_task : ℕ → ℕ
place_of_task task = task / 2

-- the package at a place depends on another: one of its two tasks needs one of the other's
abbrev pub depends_on : Needs → ℕ → ℕ → Bool
depends_on needs place other =
    not (other == place) && list_any (λ need. place_of_task need == other) (needs_of needs (task_at Prep place) ++ needs_of needs (task_at Make place))

-- the prep tasks are those of the packages that are in a relation to the package of another, by their places; that itself isn't one of them
abbrev pub ArePackages : ℕ → List ℕ → (ℕ → ℕ → Type 0) → Type 0
ArePackages prep tasks Related = (place other : ℕ) → prep ≡ task_at Prep place → Contains tasks (task_at Prep other) ↔ (Related place other × (other ≢ place))
