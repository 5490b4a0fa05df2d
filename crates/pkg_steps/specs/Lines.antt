-- The lines of a task, step by step.
use Rattle.std.specs.Prelude.{ℕ, ◌+◌, ◌==◌, Bool, true, false, List, [], ◌∷◌, ◌++◌, length, Option, Some, None, Result, Ok, Err, if◌then◌else◌}
use Rattle.plan_rows.specs.declared.rows.CommandLine.{CommandLine}
use Rattle.plan_rows.specs.declared.rows.StepRow.{StepRow}
use Rattle.plan_rows.specs.declared.rows.Step.{Step}
use Rattle.plan_rows.specs.declared.rows.Step.TheVariants as step
use Rattle.tree_worlds.specs.declared.reason.Reason.{Reason}
use Rattle.tree_worlds.specs.declared.reason.Reason.TheVariants.{NotFound, Syntax, Option as bad_option}
use Rattle.tree_worlds.specs.World.{WorldData}
use Rattle.tree_worlds.specs.Program.{Run}
use Rattle.task_shelves.specs.declared.shelf.Stamp.{Stamp}
use Rattle.task_shelves.specs.declared.shelf.Stamp.TheVariants.{Extracted, Patched, Configured, Built, HostInstalled, StagingInstalled, TargetInstalled}
use Rattle.task_shelves.specs.Shelf.{ShelfData, Failed}

-- what is run: a line with its text, and the copy of the source, each on a world
pub record Shell : Type 0 where
  pub line : List ℕ → WorldData → Run (Unit {0})
  pub copy : WorldData → Run (Unit {0})

-- 1. Lines.

-- the world after some lines; or the number of the line that failed, and its reason
abbrev pub Progress : Type 0
Progress = Result WorldData (ℕ × Reason)

-- a line that is marked may fail; what it changed before its fault stays
abbrev pub past : Bool → ℕ → Run (Unit {0}) → Progress
past ignored number (Ok (done, world)) = Ok world
past true number (Err (reason, world)) = Ok world
past false number (Err (reason, world)) = Err (number, reason)

infixl 20 ◌>+>◌
-- lines after others, unless one of these failed
abbrev pub ◌>+>◌ : Progress → (WorldData → Progress) → Progress
(Ok world) >+> next = next world
(Err fault) >+> next = Err fault

-- lines in their order, from a number on
abbrev pub lines_run : Shell → ℕ → List CommandLine → WorldData → Progress
lines_run shell number [] world = Ok world
lines_run shell number (line ∷ lines) world = past line.ignore number (shell.line line.text world) >+> lines_run shell (number + 1) lines

-- the copy of the source, where a step has it; it counts as line 0
abbrev pub copied : Shell → Bool → WorldData → Progress
copied shell false world = Ok world
copied shell true world = past false 0 (shell.copy world)

-- 2. Steps.

-- the hooks before a step, numbered from 1, and the copy of the source
abbrev pub front_run : Shell → StepRow → WorldData → Progress
front_run shell row world = lines_run shell 1 row.before world >+> copied shell row.copy_source

-- the commands of a step, from a number on, and the hooks after it
abbrev pub back_run : Shell → StepRow → ℕ → WorldData → Progress
back_run shell row number world = lines_run shell number row.lines world >+> lines_run shell (number + length row.lines) row.after

-- a step: its lines are numbered over hooks and commands together
abbrev pub step_run : Shell → StepRow → WorldData → Progress
step_run shell row world = front_run shell row world >+> back_run shell row (length row.before + 1)

-- the status of a failing command: 127 where it isn't found, 2 for its form, else 1
abbrev pub status_of : Reason → ℕ
status_of NotFound = 127
status_of Syntax = 2
status_of bad_option = 2
status_of other = 1

-- that of the failing line; line 0 is the copy of the source
abbrev pub status_at : ℕ → Reason → ℕ
status_at line reason = if line == 0 then 1 else status_of reason

-- the stamp of a step; the filling of the trees has none
abbrev pub stamp_of : Step → Option Stamp
stamp_of step.Populate = None
stamp_of step.Extract = Some Extracted
stamp_of step.Patch = Some Patched
stamp_of step.Configure = Some Configured
stamp_of step.Build = Some Built
stamp_of step.Host = Some HostInstalled
stamp_of step.Staging = Some StagingInstalled
stamp_of step.Target = Some TargetInstalled

abbrev pub with_stamp : List Stamp → Option Stamp → List Stamp
with_stamp stamps None = stamps
with_stamp stamps (Some stamp) = stamps ++ stamp ∷ []

-- where a task stands: it runs on, with the stamps that it has; or it failed
pub data Standing : Type 0 where
  Runs : (world : WorldData) (stamps : List Stamp) → Standing
  Stopped : (shelf : ShelfData) → Standing

-- a step that ended gives its stamp, a failed one none
abbrev pub after_step : Step → List Stamp → Progress → Standing
after_step at stamps (Ok world) = Runs world (with_stamp stamps (stamp_of at))
after_step at stamps (Err (line, reason)) = Stopped (Failed at line (status_at line reason) reason stamps)

-- steps in their order, up to the first that fails
abbrev pub steps_run : Shell → List StepRow → Standing → Standing
steps_run shell [] standing = standing
steps_run shell (row ∷ rows) (Stopped shelf) = Stopped shelf
steps_run shell (row ∷ rows) (Runs world stamps) = steps_run shell rows (after_step row.step stamps (step_run shell row world))
