-- A task as the code keeps it while the shelves of its needs are handed in.
use Rattle.std.specs.Prelude.{◌≡◌, ◌<◌, ℕ, Bool, List, length, Option, Some, None, Result, Ok, Err}
use Rattle.dep_graph.specs.Needs.{needs_of}
use Rattle.plan_rows.specs.Plan.{Planned, HasRow}
use Rattle.plan_rows.specs.declared.rows.TaskRow.{TaskRow}
use Rattle.tree_ops.specs.declared.change.ChangeFault.{ChangeFault}
use Rattle.tree_ops.specs.declared.entry.Label.{Label}
use Rattle.tree_ops.specs.Held.{IsForeign}
use Rattle.tree_ops.specs.Pen.{Counts, counts_of}
use Rattle.tree_ops.specs.Tree.{Tree}
use Rattle.tree_worlds.specs.declared.reason.Reason.{Reason}
use Rattle.tree_worlds.specs.declared.reason.Reason.TheVariants.{Change as for_change}
use Rattle.tree_worlds.specs.declared.world.World.{World}
use Rattle.tree_worlds.specs.World.{AreaTrees, WorldData, trees_data, world_data}
use Rattle.tree_worlds.specs.HeldWorld.{IsHeldWorld}
use Rattle.task_shelves.specs.Shelf.{ShelfData}
use Rattle.pkg_steps.specs.declared.task_run.TaskRun.{TaskRun}
use Rattle.pkg_steps.specs.Filling.{numbered, first_unbuilt, begun, filled, owner_of}

-- no label of these trees is of the pen's task
pub record AreForeign (trees : AreaTrees) (pen : Counts) : Type 0 where
  pub build : IsForeign trees.build pen
  pub host : IsForeign trees.host pen
  pub staging : IsForeign trees.staging pen
  pub target : IsForeign trees.target pen

-- a world whose task hasn't begun its lines
pub record IsUntouched {T : Type 0} (tree : T → Tree) (sealed : T → Label → Bool) (world : World T) : Type 0 where
  pub held : IsHeldWorld tree sealed world
  pub foreign : AreForeign (trees_data tree world.trees) (counts_of world.pen)

-- what a run is of: its plan, its task, and how many shelves it was handed
abbrev pub plan_of : {T : Type 0} → TaskRun T → Planned
plan_of run = run.plan.now

abbrev pub task_of : {T : Type 0} → TaskRun T → ℕ
task_of run = run.task

abbrev pub count_of : {T : Type 0} → TaskRun T → ℕ
count_of run = run.taken

-- the world so far, or why a filling was refused
abbrev pub unless_full : Option ChangeFault → WorldData → Result WorldData Reason
unless_full None world = Ok world
unless_full (Some fault) world = Err (for_change fault)

abbrev pub so_far : {T : Type 0} → (T → Tree) → TaskRun T → Result WorldData Reason
so_far tree run = unless_full run.refused (world_data tree run.world)

-- what each call asks of a run, and leaves
pub record IsHeldRun {T : Type 0} (tree : T → Tree) (sealed : T → Label → Bool) (run : TaskRun T) : Type 0 where
  pub task : task_of run < length (plan_of run).rows
  pub own : run.world.pen.task ≡ task_of run
  pub world : IsUntouched tree sealed run.world

-- a run is still of the same plan and task, and was handed as many shelves
pub record IsSameRun {T : Type 0} (old new : TaskRun T) : Type 0 where
  pub plan : plan_of new ≡ plan_of old
  pub task : task_of new ≡ task_of old
  pub taken : count_of new ≡ count_of old

-- these shelves were handed in, for the first of the task's needs: the least of these that isn't built is known, and while all are built
-- the world is filled from them
pub record HasTaken {T : Type 0} (tree : T → Tree) (run : TaskRun T) (shelves : List ShelfData) : Type 0 where
  pub count : count_of run ≡ length shelves
  pub unbuilt : run.unbuilt ≡ first_unbuilt (numbered (needs_of (plan_of run).graph (task_of run)) shelves)
  pub world : (row : TaskRow) → HasRow (plan_of run) (task_of run) row → run.unbuilt ≡ None
      → so_far tree run ≡ filled row (owner_of (plan_of run)) (numbered (needs_of (plan_of run).graph (task_of run)) shelves) (begun row (task_of run))
