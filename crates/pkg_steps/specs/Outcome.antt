-- The outcome of a task: its shelf, by the shelves of its needs.
use Rattle.std.specs.Prelude.{ℕ, List, [], ◌∷◌, ◌++◌, map, Option, Some, None, Result, Ok, Err, slice_get}
use Rattle.br_path.specs.Path.{Names}
use Rattle.br_path.specs.declared.area.Area.{Area}
use Rattle.br_path.specs.declared.area.Area.TheVariants.{Host, Staging, Target}
use Rattle.dep_graph.specs.Needs.{needs_of}
use Rattle.plan_rows.specs.Plan.{Planned}
use Rattle.plan_rows.specs.declared.rows.Part.{Part}
use Rattle.plan_rows.specs.declared.rows.Part.TheVariants.{Prep, Make}
use Rattle.plan_rows.specs.declared.rows.Step.TheVariants.{Populate}
use Rattle.plan_rows.specs.declared.rows.TaskRow.{TaskRow}
use Rattle.tree_names.specs.Changes.{changed_names}
use Rattle.tree_ops.specs.Tree.{empty_tree}
use Rattle.tree_worlds.specs.declared.reason.Reason.{Reason}
use Rattle.tree_worlds.specs.World.{WorldData, AreaTrees, empty_trees, tree_in}
use Rattle.task_shelves.specs.declared.shelf.Stamp.{Stamp}
use Rattle.task_shelves.specs.declared.shelf.Stamp.TheVariants.{Installed}
use Rattle.task_shelves.specs.Shelf.{ShelfData, Built, Failed, Skipped, no_shelf}
use Rattle.pkg_steps.specs.Filling.{Handed, numbered, first_unbuilt, begun, filled, owner_of}
use Rattle.pkg_steps.specs.Lines.{Shell, Standing, Runs, Stopped, steps_run}

-- the paths of an area at which something else stands than before, in their order: a label counts, and that nothing stands there
abbrev pub written_in : Area → AreaTrees → AreaTrees → List (Area × Names)
written_in area old new = map (λ path. (area, path)) (changed_names (tree_in old area) (tree_in new area))

-- what a make wrote: in the host tree, in staging, in the target tree
abbrev pub written : AreaTrees → AreaTrees → List (Area × Names)
written old new = written_in Host old new ++ written_in Staging old new ++ written_in Target old new

-- a prep leaves its build tree alone; a make all others, and what it wrote since they were filled
abbrev pub shelved : Part → AreaTrees → AreaTrees → List Stamp → ShelfData
shelved Prep old new stamps = Built (record empty_trees { build = new.build }) [] stamps
shelved Make old new stamps = Built (record new { build = empty_tree }) (written old new) (stamps ++ Installed ∷ [])

abbrev pub ended : Part → AreaTrees → Standing → ShelfData
ended part old (Runs world stamps) = shelved part old world.trees stamps
ended part old (Stopped shelf) = shelf

-- a filling that would pass a limit fails the task before its first step; else its steps are run
abbrev pub run_in : TaskRow → Shell → Result WorldData Reason → ShelfData
run_in row shell (Err reason) = Failed Populate 0 1 reason []
run_in row shell (Ok world) = ended row.part world.trees (steps_run shell row.steps (Runs world []))

abbrev pub unless_skipped : Option ℕ → ShelfData → ShelfData
unless_skipped None shelf = shelf
unless_skipped (Some task) shelf = Skipped task

-- a task with a needed task that isn't built is skipped by the least such
abbrev pub outcome : TaskRow → Shell → (ℕ → List ℕ) → ℕ → Handed → ShelfData
outcome row shell owner task handed = unless_skipped (first_unbuilt handed) (run_in row shell (filled row owner handed (begun row task)))

abbrev pub outcome_in : Planned → Shell → ℕ → List ShelfData → Option TaskRow → ShelfData
outcome_in plan shell task shelves None = no_shelf
outcome_in plan shell task shelves (Some row) = outcome row shell (owner_of plan) task (numbered (needs_of plan.graph task) shelves)

-- the outcome of a plan's task, by the shelves of its needs, rising
abbrev pub outcome_of : Planned → Shell → ℕ → List ShelfData → ShelfData
outcome_of plan shell task shelves = outcome_in plan shell task shelves (slice_get plan.rows task)
