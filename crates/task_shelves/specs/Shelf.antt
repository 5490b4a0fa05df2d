-- What a task leaves, as data that doesn't know how trees are kept.
use Rattle.std.specs.Prelude.{ℕ, List}
use Rattle.br_path.specs.Path.{Names}
use Rattle.br_path.specs.declared.area.Area.{Area}
use Rattle.plan_rows.specs.declared.rows.Step.{Step}
use Rattle.tree_ops.specs.Tree.{Tree}
use Rattle.tree_worlds.specs.declared.reason.Reason.{Reason}
use Rattle.tree_worlds.specs.World.{AreaTrees, trees_data}
use Rattle.task_shelves.specs.declared.shelf.Stamp.{Stamp}
use Rattle.task_shelves.specs.declared.shelf.Shelf.{Shelf}
use Rattle.task_shelves.specs.declared.shelf.Shelf.TheVariants as code

-- the trees that a task left, the paths that it wrote, and its stamps; or the step and line that failed, with status, reason and the
-- stamps so far; or the needed task that isn't built
pub data ShelfData : Type 0 where
  Built : (trees : AreaTrees) (written : List (Area × Names)) (stamps : List Stamp) → ShelfData
  Failed : (step : Step) (line : ℕ) (status : ℕ) (reason : Reason) (stamps : List Stamp) → ShelfData
  Skipped : (by : ℕ) → ShelfData

-- what is read where no shelf stands
abbrev pub no_shelf : ShelfData
no_shelf = Skipped 0

-- what the code's shelf says, by what its trees stand for
abbrev pub shelf_data : {T : Type 0} → (T → Tree) → Shelf T → ShelfData
shelf_data tree (code.Built trees written stamps) = Built (trees_data tree trees) written stamps
shelf_data tree (code.Failed step line status reason stamps) = Failed step line status reason stamps
shelf_data tree (code.Skipped by) = Skipped by
