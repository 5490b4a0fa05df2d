-- What each line keeps, the steps of a task keep.
use Rattle.std.proofs.Common.{ℕ, Bool, true, false, List, [], ◌∷◌, ◌+◌, length, Ok, Err}
use Rattle.plan_rows.specs.declared.rows.CommandLine.{CommandLine}
use Rattle.plan_rows.specs.declared.rows.StepRow.{StepRow}
use Rattle.tree_worlds.specs.World.{WorldData}
use Rattle.tree_worlds.specs.Program.{Run}
use Rattle.tree_worlds.specs.Kept.{IsKept, left_by}
use Rattle.task_shelves.specs.declared.shelf.Stamp.{Stamp}
use Rattle.task_shelves.specs.Shelf.{ShelfData, Built, Failed, Skipped}
use Rattle.pkg_steps.specs.Lines.{Shell, Progress, past, ◌>+>◌, lines_run, copied, front_run, back_run, step_run, Standing, Runs, Stopped, after_step, steps_run}
use Rattle.pkg_steps.specs.Origins.{KeepsEach}

module _ (kept : WorldData → WorldData → Type 0) (law : IsKept kept) (shell : Shell) (each : KeepsEach kept shell) (old : WorldData) where
  abbrev KeptSoFar : Progress → Type 0
  KeptSoFar (Ok world) = kept old world
  KeptSoFar (Err fault) = Unit {0}

  past-keeps : (ignored : Bool) (number : ℕ) (run : Run (Unit {0})) → kept old (left_by run) → KeptSoFar (past ignored number run)
  past-keeps ignored number (Ok (done, world)) is = is
  past-keeps true number (Err (reason, world)) is = is
  past-keeps false number (Err (reason, world)) is = tt

  on-keeps : (first : Progress) (next : WorldData → Progress) → ((world : WorldData) → kept old world → KeptSoFar (next world)) → KeptSoFar first → KeptSoFar (first >+> next)
  on-keeps (Ok world) next each is = each world is
  on-keeps (Err fault) next each is = tt

  lines-keep : (number : ℕ) (lines : List CommandLine) (world : WorldData) → kept old world → KeptSoFar (lines_run shell number lines world)
  lines-keep number [] world is = is
  lines-keep number (line ∷ lines) world is =
      on-keeps (past line.ignore number (shell.line line.text world)) (lines_run shell (number + 1) lines) (λ w. lines-keep (number + 1) lines w)
      (past-keeps line.ignore number (shell.line line.text world) (law.chain old world _ is (each.line line.text world)))

  copied-keeps : (copies : Bool) (world : WorldData) → kept old world → KeptSoFar (copied shell copies world)
  copied-keeps false world is = is
  copied-keeps true world is = past-keeps false 0 (shell.copy world) (law.chain old world _ is (each.copy world))

  step-keeps : (row : StepRow) (world : WorldData) → kept old world → KeptSoFar (step_run shell row world)
  step-keeps row world is =
      on-keeps (front_run shell row world) (back_run shell row (length row.before + 1))
      (λ w so. on-keeps (lines_run shell (length row.before + 1) row.lines w) (lines_run shell (length row.before + 1 + length row.lines) row.after) (λ v. lines-keep (length row.before + 1 + length row.lines) row.after v)
      (lines-keep (length row.before + 1) row.lines w so))
      (on-keeps (lines_run shell 1 row.before world) (copied shell row.copy_source) (λ w. copied-keeps row.copy_source w) (lines-keep 1 row.before world is))

  abbrev pub IsUnbuilt : ShelfData → Type 0
  IsUnbuilt (Built trees written stamps) = ⊥
  IsUnbuilt (Failed step line status reason stamps) = Unit {0}
  IsUnbuilt (Skipped by) = Unit {0}

  abbrev pub KeptAt : Standing → Type 0
  KeptAt (Runs world stamps) = kept old world
  KeptAt (Stopped shelf) = IsUnbuilt shelf

  after-keeps : (row : StepRow) (stamps : List Stamp) (progress : Progress) → KeptSoFar progress → KeptAt (after_step row.step stamps progress)
  after-keeps row stamps (Ok world) is = is
  after-keeps row stamps (Err fault) is = tt

  pub steps-keep : (rows : List StepRow) (standing : Standing) → KeptAt standing → KeptAt (steps_run shell rows standing)
  steps-keep [] standing is = is
  steps-keep (row ∷ rows) (Stopped shelf) is = is
  steps-keep (row ∷ rows) (Runs world stamps) is = steps-keep rows (after_step row.step stamps (step_run shell row world)) (after-keeps row stamps (step_run shell row world) (step-keeps row world is))
