-- What running lines and steps answers: form of the code, which no public contract cites.
use Rattle.std.specs.Prelude.{◌≡◌, ◌+◌, ◌≤◌, ℕ, Bool, true, false, List, length, Result, Ok, Err}
use Rattle.plan_rows.specs.declared.rows.Step.{Step}
use Rattle.plan_rows.specs.declared.rows.StepRow.{StepRow}
use Rattle.tree_worlds.specs.declared.reason.CommandError.{CommandError}
use Rattle.tree_worlds.specs.declared.reason.CommandError.TheVariants as command
use Rattle.tree_worlds.specs.World.{WorldData}
use Rattle.task_shelves.specs.declared.shelf.Stamp.{Stamp}
use Rattle.task_shelves.specs.Shelf.{Failed}
use Rattle.pkg_steps.specs.declared.lines.LineFault.{LineFault}
use Rattle.pkg_steps.specs.declared.lines.LineFault.TheVariants as line
use Rattle.pkg_steps.specs.declared.steps.StepFault.{StepFault}
use Rattle.pkg_steps.specs.declared.steps.StepFault.TheVariants as step
use Rattle.pkg_steps.specs.Lines.{Progress, Standing, Runs, Stopped, status_at}

-- a step's lines have numbers
abbrev pub AreFew : StepRow → Type 0
AreFew row = length row.before + length row.lines + length row.after ≤ 4294967290

-- what a line's outcome is for its step
abbrev pub passed : Bool → ℕ → Result (Unit {0}) CommandError → Result (Unit {0}) LineFault
passed ignored number (Ok done) = Ok done
passed ignored number (Err command.Memory) = Err line.Memory
passed true number (Err (command.Failed reason)) = Ok tt
passed false number (Err (command.Failed reason)) = Err (line.Failed number reason)

-- what lines answer, and leave at their end
abbrev pub Progressed : Progress → Result (Unit {0}) LineFault → WorldData → Type 0
Progressed outcome (Ok done) new = outcome ≡ Ok new
Progressed outcome (Err line.Memory) new = Unit {0}
Progressed outcome (Err (line.Failed number reason)) new = outcome ≡ Err (number, reason)

abbrev pub failed_at : Step → LineFault → StepFault
failed_at at line.Memory = step.Memory
failed_at at (line.Failed number reason) = step.Failed at number reason

-- what steps answer, and leave at their end
abbrev pub Stepped : Standing → Result (Unit {0}) StepFault → WorldData → List Stamp → Type 0
Stepped standing (Ok done) new stamps = standing ≡ Runs new stamps
Stepped standing (Err step.Memory) new stamps = Unit {0}
Stepped standing (Err (step.Failed at number reason)) new stamps = standing ≡ Stopped (Failed at number (status_at number reason) reason stamps)
