-- The plan: the rows of the tasks, what the tasks need, and their order.
use Rattle.std.specs.Prelude.{◌≡◌, ℕ, ◌+◌, ◌-◌, ◌%◌, ◌<◌, ◌≤◌, ◌↔◌, ◌==◌, List, length, slice_get, Option, Some, None, All, Contains, if◌then◌else◌}
use Rattle.std.specs.Ordering.{nat_cmp}
use Rattle.std.specs.declared.cmp.Ordering.TheVariants.{Less}
use Rattle.std.specs.Cmp.Lexicographic.{slice_cmp}
use Rattle.dep_graph.specs.Needs.{Needs, needs_of}
use Rattle.dep_graph.specs.Order.{IsOrder}
use Rattle.plan_rows.specs.declared.rows.Part.{Part}
use Rattle.plan_rows.specs.declared.rows.Part.TheVariants.{Prep, Make}
use Rattle.plan_rows.specs.declared.rows.TaskRow.{TaskRow}
use Rattle.plan_rows.specs.Rows.{Uses, lines_of, AreLines, IsStepRow}

-- a row for each task, by its number; what the tasks need; the order in which they are taken
pub record Planned : Type 0 where
  pub rows : List TaskRow
  pub graph : Needs
  pub order : List ℕ

-- a task has this row
abbrev pub HasRow : Planned → ℕ → TaskRow → Type 0
HasRow plan task row = slice_get plan.rows task ≡ Some row

-- a number is that of a task, and the task is a prep, or a make
abbrev pub IsTask : Planned → Part → ℕ → Type 0
IsTask plan part task = (row : TaskRow) × HasRow plan task row × (row.part ≡ part)

-- prep and make alternate, from prep
abbrev pub part_of : ℕ → Part
part_of task = if task % 2 == 0 then Prep else Make

-- a make task's own prep task is the one before it; a prep task has none
abbrev pub own_prep_of : Part → ℕ → Option ℕ
own_prep_of Prep task = None
own_prep_of Make task = Some (task - 1)

-- a row is that of its task: those that fill its trees are make tasks, those that it may read are prep tasks, and those that it uses are
-- together what its task needs
pub record IsRow (plan : Planned) (task : ℕ) (row : TaskRow) : Type 0 where
  pub part : row.part ≡ part_of task
  pub own_prep : row.own_prep ≡ own_prep_of row.part task
  pub fills : All (IsTask plan Make) row.fills
  pub readable : All (IsTask plan Prep) row.readable
  pub needs : (need : ℕ) → Contains (needs_of plan.graph task) need ↔ Uses row need
  pub lines : AreLines (lines_of row)
  pub steps : All IsStepRow row.steps

-- a plan: at most 512 tasks, each with its row; after each prep stands the make of the same package; packages rise by
-- name; the order is that of the needs
pub record IsPlan (plan : Planned) : Type 0 where
  pub count : length plan.rows ≡ length plan.graph
  pub few : length plan.rows ≤ 512
  pub rows : (task : ℕ) (row : TaskRow) → HasRow plan task row → IsRow plan task row
  pub pairs : (task : ℕ) (prep : TaskRow) → HasRow plan task prep → prep.part ≡ Prep
      → (make : TaskRow) × HasRow plan (task + 1) make × (make.package ≡ prep.package)
  pub rising : (task later : ℕ) (row other : TaskRow) → task < later → HasRow plan task row → HasRow plan later other
      → row.part ≡ Prep → other.part ≡ Prep → slice_cmp nat_cmp row.package other.package ≡ Less
  pub order : IsOrder plan.graph plan.order

-- a package of the plan has this name
abbrev pub IsPackage : Planned → List ℕ → Type 0
IsPackage plan name = (task : ℕ) × (row : TaskRow) × HasRow plan task row × (row.package ≡ name)

-- a number is that of the prep task of the package with this name
abbrev pub IsPrepOf : Planned → List ℕ → ℕ → Type 0
IsPrepOf plan name task = (row : TaskRow) × HasRow plan task row × (row.part ≡ Prep) × (row.package ≡ name)
