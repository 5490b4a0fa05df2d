-- The built packages of a plan: what each left and wrote.
use Rattle.std.specs.Prelude.{◌≡◌, ℕ, Bool, true, false, ◌&&◌, List, length, Option, Some, None, slice_get}
use Rattle.std.specs.List.{list_any, filter_map, range_with_len}
use Rattle.br_path.specs.Path.{Names}
use Rattle.br_path.specs.declared.area.Area.{Area}
use Rattle.br_path.specs.declared.area.Area.TheVariants.{Build, Host, Staging, Target}
use Rattle.plan_rows.specs.Plan.{Planned}
use Rattle.plan_rows.specs.declared.rows.TaskRow.{TaskRow}
use Rattle.tree_ops.specs.Change.{is_path}
use Rattle.tree_worlds.specs.World.{AreaTrees}
use Rattle.task_shelves.specs.Shelf.{ShelfData, Built}

-- a built package: the number of its make, its name, the trees that its make left, and the paths that it wrote
pub record Left : Type 0 where
  pub task : ℕ
  pub name : List ℕ
  pub trees : AreaTrees
  pub written : List (Area × Names)

-- a package is built where both of its tasks are
abbrev pub left_on : ℕ → List ℕ → ShelfData → ShelfData → Option Left
left_on task name (Built trees written stamps) (Built left wrote more) = Some (record { task = task; name = name; trees = left; written = wrote })
left_on task name prep make = None

-- a make's own prep is known by its row; a prep has none
abbrev pub left_beside : (ℕ → ShelfData) → ℕ → List ℕ → Option ℕ → Option Left
left_beside shelves task name None = None
left_beside shelves task name (Some prep) = left_on task name (shelves prep) (shelves task)

abbrev pub left_by_row : (ℕ → ShelfData) → ℕ → Option TaskRow → Option Left
left_by_row shelves task None = None
left_by_row shelves task (Some row) = left_beside shelves task row.«package» row.own_prep

-- the built package whose make this task is
abbrev pub left_by : Planned → (ℕ → ShelfData) → ℕ → Option Left
left_by plan shelves task = left_by_row shelves task (slice_get plan.rows task)

-- the built packages, by name
abbrev pub packages_left : Planned → (ℕ → ShelfData) → List Left
packages_left plan shelves = filter_map (left_by plan shelves) (range_with_len 0 (length plan.rows))

-- one of them
abbrev pub IsLeft : Planned → (ℕ → ShelfData) → Left → Type 0
IsLeft plan shelves left = left_by plan shelves left.task ≡ Some left

abbrev pub is_area : Area → Area → Bool
is_area Build Build = true
is_area Host Host = true
is_area Staging Staging = true
is_area Target Target = true
is_area one other = false

-- a path of an area stands among those written
abbrev pub has_written : Area → Names → List (Area × Names) → Bool
has_written area path written = list_any (λ pair. is_area pair.0 area && is_path pair.1 path) written

-- a package wrote a path of an area
abbrev pub wrote : Area → Names → Left → Bool
wrote area path left = has_written area path left.written
