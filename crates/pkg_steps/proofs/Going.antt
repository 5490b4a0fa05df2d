-- How lines and steps in a row make up an outcome.
use Rattle.std.proofs.Common.{ℕ, ◌≡◌, Bool, true, false, List, [], ◌∷◌, Result, Ok, Err, refl, sym, ap, subst, ◌∙◌}
use Rattle.plan_rows.specs.declared.rows.StepRow.{StepRow}
use Rattle.tree_worlds.specs.declared.reason.Reason.{Reason}
use Rattle.tree_worlds.specs.declared.reason.CommandError.{CommandError}
use Rattle.tree_worlds.specs.declared.reason.CommandError.TheVariants as command
use Rattle.tree_worlds.specs.World.{WorldData}
use Rattle.tree_worlds.specs.Program.{Run, Ran}
use Rattle.pkg_steps.specs.declared.lines.LineFault.{LineFault}
use Rattle.pkg_steps.specs.declared.lines.LineFault.TheVariants as line
use Rattle.pkg_steps.specs.Lines.{Shell, Progress, past, ◌>+>◌, step_run, steps_run, Standing, Runs, Stopped, after_step, status_at}
use Rattle.task_shelves.specs.declared.shelf.Stamp.{Stamp}
use Rattle.task_shelves.specs.Shelf.{ShelfData, Failed}
use Rattle.pkg_steps.specs.Stepping.{Progressed, Stepped, passed, failed_at}
use Rattle.pkg_steps.specs.declared.steps.StepFault.{StepFault}

-- a line's outcome, as its step takes it
pub passed_past : (ignored : Bool) (number : ℕ) (run : Run (Unit {0})) (result : Result (Unit {0}) CommandError) (new : WorldData) → Ran run result new → Progressed (past ignored number run) (passed ignored number result) new
passed_past ignored number run (Ok done) new ran = ap (past ignored number) ran
passed_past ignored number run (Err command.Memory) new ran = tt
passed_past true number run (Err (command.Failed reason)) new ran = ap (past true number) ran
passed_past false number run (Err (command.Failed reason)) new ran = ap (past false number) ran

-- what fails ends all
pub stopped : (first : Progress) (next : WorldData → Progress) (fault : LineFault) (new : WorldData) → Progressed first (Err fault) new → Progressed (first >+> next) (Err fault) new
stopped first next line.Memory new is = tt
stopped first next (line.Failed number reason) new is = ap (λ p. p >+> next) is

-- what ends goes on
pub went_on : (first : Progress) (next : WorldData → Progress) (mid : WorldData) (result : Result (Unit {0}) LineFault) (new : WorldData) → first ≡ Ok mid → Progressed (next mid) result new → Progressed (first >+> next) result new
went_on first next mid result new is then = subst (λ p. Progressed (p >+> next) result new) (sym is) then

stays_stopped : (shell : Shell) (rows : List StepRow) (shelf : ShelfData) → steps_run shell rows (Stopped shelf) ≡ Stopped shelf
stays_stopped shell [] shelf = refl
stays_stopped shell (row ∷ rows) shelf = refl

-- a step that fails ends all
pub stopped_step : (shell : Shell) (rows rest : List StepRow) (row : StepRow) (world : WorldData) (stamps : List Stamp) (number : ℕ) (cause : Reason) → rows ≡ row ∷ rest
    → step_run shell row world ≡ Err (number, cause) → steps_run shell rows (Runs world stamps) ≡ Stopped (Failed row.step number (status_at number cause) cause stamps)
stopped_step shell rows rest row world stamps number cause is fails =
    ap (λ r. steps_run shell r (Runs world stamps)) is ∙ ap (λ p. steps_run shell rest (after_step row.step stamps p)) fails ∙ stays_stopped shell rest _

pub stepped_err : (shell : Shell) (rows rest : List StepRow) (row : StepRow) (world new : WorldData) (stamps : List Stamp) (fault : LineFault) (all : Standing) (result : StepFault) → rows ≡ row ∷ rest
    → Progressed (step_run shell row world) (Err fault) new → steps_run shell rows (Runs world stamps) ≡ all → result ≡ failed_at row.step fault → Stepped all (Err result) new stamps
stepped_err shell rows rest row world new stamps fault all result is fails same answer =
    subst (λ f. Stepped all (Err f) new stamps) (sym answer) (by fault fails)
  where
    by : (fault : LineFault) → Progressed (step_run shell row world) (Err fault) new → Stepped all (Err (failed_at row.step fault)) new stamps
    by line.Memory fails = tt
    by (line.Failed number cause) fails = sym same ∙ stopped_step shell rows rest row world stamps number cause is fails
