-- The row of a task: its lines, its steps, and the tasks that it uses.
use Rattle.std.specs.Prelude.{◌≡◌, ◌≢◌, ◌≤◌, ◌⊎◌, ℕ, Bool, true, nat_eq, Some, List, [], ◌++◌, length, flat_map, All, Contains}
use Rattle.std.specs.Cmp.Lexicographic.{pointwise}
use Rattle.plan_rows.specs.declared.rows.CommandLine.{CommandLine}
use Rattle.plan_rows.specs.declared.rows.Step.TheVariants.{Populate, Extract}
use Rattle.plan_rows.specs.declared.rows.StepRow.{StepRow}
use Rattle.plan_rows.specs.declared.rows.TaskRow.{TaskRow}

-- whether a row is of the package with this name
abbrev pub is_of : List ℕ → TaskRow → Bool
is_of name row = pointwise nat_eq row.package name

-- a row uses a task: as its own prep task, as one that fills its trees, or as one whose build tree it may read
abbrev pub Uses : TaskRow → ℕ → Type 0
Uses row task = (row.own_prep ≡ Some task) ⊎ Contains row.fills task ⊎ Contains row.readable task

-- the lines of a task, step by step, in the order in which they are run
abbrev pub lines_of : TaskRow → List CommandLine
lines_of row = flat_map (λ step. step.before ++ step.lines ++ step.after) row.steps

-- at most 262,144 lines, each of at most 262,144 bytes
pub record AreLines (lines : List CommandLine) : Type 0 where
  pub few : length lines ≤ 262144
  pub short : All (λ line. length line.text ≤ 262144) lines

-- a step isn't the filling of trees; where it copies the source, it is to extract, and has no commands
pub record IsStepRow (row : StepRow) : Type 0 where
  pub no_filling : row.step ≢ Populate
  pub extracts : row.copy_source ≡ true → row.step ≡ Extract
  pub no_commands : row.copy_source ≡ true → row.lines ≡ []
