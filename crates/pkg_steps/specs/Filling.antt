-- What a task begins with: its trees, filled from the shelves of its needs.
use Rattle.std.specs.Prelude.{ℕ, Bool, true, false, ◌==◌, List, [], ◌∷◌, Option, Some, None, Result, Ok, Err, slice_get, if◌then◌else◌}
use Rattle.br_path.specs.declared.area.Area.{Area}
use Rattle.br_path.specs.declared.area.Area.TheVariants.{Build, Host, Staging, Target}
use Rattle.plan_rows.specs.Plan.{Planned}
use Rattle.plan_rows.specs.declared.rows.TaskRow.{TaskRow}
use Rattle.plan_rows.specs.declared.rows.Part.{Part}
use Rattle.plan_rows.specs.declared.rows.Part.TheVariants.{Prep, Make}
use Rattle.tree_ops.specs.Tree.{Tree}
use Rattle.tree_ops.specs.Change.{changed, Populate}
use Rattle.tree_worlds.specs.declared.reason.Reason.{Reason}
use Rattle.tree_worlds.specs.World.{WorldData, AreaTrees, state_in, put_back, new_world, readable, shown_too}
use Rattle.task_shelves.specs.Shelf.{ShelfData, Built, Failed, Skipped}
use Rattle.task_shelves.specs.Labels.{is_among}

-- needed tasks with their shelves, rising
abbrev pub Handed : Type 0
Handed = List (ℕ × ShelfData)

-- the shelves that were handed in for the first of these needs
abbrev pub numbered : List ℕ → List ShelfData → Handed
numbered [] shelves = []
numbered (need ∷ needs) [] = []
numbered (need ∷ needs) (shelf ∷ shelves) = (need, shelf) ∷ numbered needs shelves

-- the task, unless its shelf is built
abbrev pub unless_built : ℕ → ShelfData → Option ℕ
unless_built task (Built trees written stamps) = None
unless_built task (Failed step line status reason stamps) = Some task
unless_built task (Skipped by) = Some task

abbrev pub first_or : Option ℕ → Option ℕ → Option ℕ
first_or (Some by) later = Some by
first_or None later = later

-- the least needed task that isn't built
abbrev pub first_unbuilt : Handed → Option ℕ
first_unbuilt [] = None
first_unbuilt ((task, shelf) ∷ more) = first_or (unless_built task shelf) (first_unbuilt more)

abbrev pub is_prep : Part → Bool
is_prep Prep = true
is_prep Make = false

abbrev pub is_own_prep : Option ℕ → ℕ → Bool
is_own_prep None task = false
is_own_prep (Some own) task = own == task

-- the world of a task before its trees are filled
abbrev pub begun : TaskRow → ℕ → WorldData
begun row task = new_world task row.«package» row.folder row.host (is_prep row.part)

infixl 20 ◌>->◌
-- a filling after others, unless one of these was refused
abbrev pub ◌>->◌ : Result WorldData Reason → (WorldData → Result WorldData Reason) → Result WorldData Reason
(Ok world) >-> next = next world
(Err reason) >-> next = Err reason

-- a tree is laid over an area's, whatever the task's rights
abbrev pub fill : Area → Tree → WorldData → Result WorldData Reason
fill area from world = put_back world area (changed (Populate from) (state_in world area))

-- what the trees of a needed task give: the build tree of the own prep task is gone on with; the host, staging and target trees of a make
-- are laid over the task's, in this order; the build tree of a patch dependency's prep task may be read, and counts for no limit
abbrev pub given : TaskRow → (ℕ → List ℕ) → ℕ → AreaTrees → WorldData → Result WorldData Reason
given row owner task trees world =
    if is_own_prep row.own_prep task then fill Build trees.build world else
    if is_among row.fills task then fill Host trees.host world >-> fill Staging trees.staging >-> fill Target trees.target else
    if is_among row.readable task then Ok (shown_too world (readable task (owner task) trees.build)) else Ok world

-- what a shelf gives: nothing, unless it is built
abbrev pub given_by : TaskRow → (ℕ → List ℕ) → ℕ → ShelfData → WorldData → Result WorldData Reason
given_by row owner task (Built trees written stamps) world = given row owner task trees world
given_by row owner task (Failed step line status reason stamps) world = Ok world
given_by row owner task (Skipped by) world = Ok world

-- the world filled from all shelves, need by need; or why the first filling that would pass a limit is refused
abbrev pub filled : TaskRow → (ℕ → List ℕ) → Handed → WorldData → Result WorldData Reason
filled row owner [] world = Ok world
filled row owner ((task, shelf) ∷ more) world = given_by row owner task shelf world >-> filled row owner more

abbrev pub owner_in : Option TaskRow → List ℕ
owner_in None = []
owner_in (Some row) = row.«package»

-- the name of a task's package
abbrev pub owner_of : Planned → ℕ → List ℕ
owner_of plan task = owner_in (slice_get plan.rows task)
