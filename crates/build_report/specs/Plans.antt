-- The texts of a plan and of packages of it.
use Rattle.std.specs.Prelude.{ℕ, List, [], ◌∷◌, ◌++◌, flat_map, slice_get, Option, Some, None, codes}
use Rattle.dep_graph.specs.Needs.{needs_of}
use Rattle.plan_rows.specs.declared.rows.Part.{Part}
use Rattle.plan_rows.specs.declared.rows.Part.TheVariants.{Prep, Make}
use Rattle.plan_rows.specs.declared.rows.TaskRow.{TaskRow}
use Rattle.plan_rows.specs.Plan.{Planned}

abbrev pub part_text : Part → List ℕ
part_text Prep = codes ":prep"
part_text Make = codes ":make"

-- a task, by its row: its package and its part; nothing where there is no such task
abbrev pub row_text : Option TaskRow → List ℕ
row_text (Some row) = row.package ++ part_text row.part
row_text None = []

abbrev pub task_text : Planned → ℕ → List ℕ
task_text plan task = row_text (slice_get plan.rows task)

-- a task that is needed
abbrev pub need_text : Planned → ℕ → List ℕ
need_text plan need = 32 ∷ task_text plan need

-- the tasks that a task needs, rising
abbrev pub needs_text : Planned → ℕ → List ℕ
needs_text plan task = flat_map (need_text plan) (needs_of plan.graph task)

-- a task and those that it needs
abbrev pub task_line : Planned → ℕ → List ℕ
task_line plan task = task_text plan task ++ needs_text plan task ++ 10 ∷ []

-- a line for each task, in the order in which they are taken
abbrev pub plan_text : Planned → List ℕ
plan_text plan = flat_map (task_line plan) plan.order

-- the package of a task, by its row
abbrev pub name_text : Option TaskRow → List ℕ
name_text (Some row) = row.package
name_text None = []

abbrev pub name_line : Planned → ℕ → List ℕ
name_line plan task = name_text (slice_get plan.rows task) ++ 10 ∷ []

-- the packages of tasks, a line each
abbrev pub names_text : Planned → List ℕ → List ℕ
names_text plan tasks = flat_map (name_line plan) tasks
