-- The serial build: the tasks of a plan one after another, each from the shelves of its needs.
use Rattle.std.specs.Prelude.{ℕ, List, [], ◌∷◌, map, nat_eq, Option, Some, None, slice_get, if◌then◌else◌}
use Rattle.dep_graph.specs.Needs.{needs_of}
use Rattle.plan_rows.specs.Plan.{Planned}
use Rattle.tree_ops.specs.Tree.{Tree}
use Rattle.task_shelves.specs.declared.shelf.Shelf.{Shelf}
use Rattle.task_shelves.specs.Shelf.{ShelfData, Built, Failed, Skipped, no_shelf, shelf_data}
use Rattle.pkg_steps.specs.Lines.{Shell}
use Rattle.pkg_steps.specs.Outcome.{outcome_of}

-- a shelf for each task
abbrev pub Shelves : Type 0
Shelves = ℕ → ShelfData

-- the same shelves with one of a task in its place
abbrev pub put : Shelves → ℕ → ShelfData → Shelves
put shelves task shelf = λ other. if nat_eq other task then shelf else shelves other

-- the shelves of a task's needs, rising
abbrev pub handed_to : Planned → Shelves → ℕ → List ShelfData
handed_to plan shelves task = map shelves (needs_of plan.graph task)

-- the shelves after some tasks more
abbrev pub serial_from : Planned → Shell → Shelves → List ℕ → Shelves
serial_from plan shell shelves [] = shelves
serial_from plan shell shelves (task ∷ tasks) = serial_from plan shell (put shelves task (outcome_of plan shell task (handed_to plan shelves task))) tasks

-- the shelf of each task, where all are run in the plan's order
abbrev pub serial_build : Planned → Shell → Shelves
serial_build plan shell = serial_from plan shell (λ task. no_shelf) plan.order

-- a task that was skipped hasn't failed
abbrev pub HasNotFailed : ShelfData → Type 0
HasNotFailed (Built trees written stamps) = Unit {0}
HasNotFailed (Failed step line status reason stamps) = ⊥
HasNotFailed (Skipped by) = Unit {0}

-- what shelves in a list say, by their places
abbrev pub shelf_or : {T : Type 0} → (T → Tree) → Option (Shelf T) → ShelfData
shelf_or tree None = no_shelf
shelf_or tree (Some shelf) = shelf_data tree shelf

abbrev pub shelves_data : {T : Type 0} → (T → Tree) → List (Shelf T) → Shelves
shelves_data tree items = λ task. shelf_or tree (slice_get items task)
