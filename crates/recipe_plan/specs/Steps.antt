-- The steps of a task, and what is run in them.
use Rattle.std.specs.Prelude.{ℕ, Bool, true, false, ◌&&◌, not, List, [], ◌∷◌, ◌++◌, Option, None, Some, is_some, Result, Ok, codes, if◌then◌else◌}
use Rattle.br_path.specs.Text.{is_text}
use Rattle.mk_expand.specs.Vars.{Table, found}
use Rattle.plan_rows.specs.declared.rows.Part.{Part}
use Rattle.plan_rows.specs.declared.rows.Part.TheVariants.{Prep, Make}
use Rattle.plan_rows.specs.declared.rows.Step.{Step}
use Rattle.plan_rows.specs.declared.rows.Step.TheVariants.{Populate, Extract, Patch, Configure, Build, Host, Staging, Target}
use Rattle.plan_rows.specs.declared.rows.StepRow.{StepRow}
use Rattle.recipe_set.specs.declared.packages.Made.{Made}
use Rattle.recipe_set.specs.declared.fault.PlanFault.{PlanFault}
use Rattle.recipe_set.specs.Names.{upper_form}
use Rattle.recipe_plan.specs.Answers.{◌>>=◌, in_turn}
use Rattle.recipe_plan.specs.Texts.{Texts, value, put_variable, hooks}

-- the steps that a task may have, in their order
abbrev pub steps_of : Part → Bool → List Step
steps_of Prep host = Extract ∷ Patch ∷ []
steps_of Make true = Configure ∷ Build ∷ Host ∷ []
steps_of Make false = Configure ∷ Build ∷ Staging ∷ Target ∷ []

-- what the variables of a step are named by; no variable is one of the filling
abbrev pub step_name : Step → List ℕ
step_name Populate = codes "POPULATE"
step_name Extract = codes "EXTRACT"
step_name Patch = codes "PATCH"
step_name Configure = codes "CONFIGURE"
step_name Build = codes "BUILD"
step_name Host = codes "INSTALL"
step_name Staging = codes "INSTALL_STAGING"
step_name Target = codes "INSTALL_TARGET"

-- a variable of a package's step, by what stands before and after the step's name
abbrev pub variable_of : Made → List ℕ → Step → List ℕ → List ℕ
variable_of made front step back = upper_form made.name ++ (front ++ (step_name step ++ back))

abbrev pub hooks_before : Made → Step → List ℕ
hooks_before made step = variable_of made (codes "_PRE_") step (codes "_HOOKS")

abbrev pub hooks_behind : Made → Step → List ℕ
hooks_behind made step = variable_of made (codes "_POST_") step (codes "_HOOKS")

abbrev pub commands_of : Made → Step → List ℕ
commands_of made step = variable_of made (codes "_") step (codes "_CMDS")

abbrev pub setting_of : Made → Step → List ℕ
setting_of made step = variable_of made (codes "_") step []

-- where a step has a setting, whether the step is there while the setting is unset
abbrev pub default_of : Step → Option Bool
default_of Staging = Some false
default_of Target = Some true
default_of Populate = None
default_of Extract = None
default_of Patch = None
default_of Configure = None
default_of Build = None
default_of Host = None

-- a step has commands of its own; a patch has hooks alone
abbrev pub has_commands : Step → Bool
has_commands Patch = false
has_commands Populate = false
has_commands Extract = true
has_commands Configure = true
has_commands Build = true
has_commands Host = true
has_commands Staging = true
has_commands Target = true

abbrev pub is_extract : Step → Bool
is_extract Extract = true
is_extract Populate = false
is_extract Patch = false
is_extract Configure = false
is_extract Build = false
is_extract Host = false
is_extract Staging = false
is_extract Target = false

-- a variable of the package is set
abbrev pub is_set : Table → List ℕ → Bool
is_set vars variable = is_some (found vars variable)

-- what a setting says: YES, and nothing else, is yes
abbrev pub setting : Table → Made → Step → Bool → Result Bool PlanFault
setting vars made step default =
    if is_set vars (setting_of made step) then (value vars made (setting_of made step) >>= λ text. Ok (is_text text (codes "YES"))) else Ok default

abbrev pub has_step_by : Table → Made → Step → Option Bool → Result Bool PlanFault
has_step_by vars made step None = Ok true
has_step_by vars made step (Some default) = setting vars made step default

-- whether a package has a step
abbrev pub has_step : Table → Made → Step → Result Bool PlanFault
has_step vars made step = has_step_by vars made step (default_of step)

-- the source is copied in place of commands: to extract, where those aren't set
abbrev pub copies : Table → Made → Step → Bool
copies vars made step = is_extract step && not (is_set vars (commands_of made step))

-- the lines of a step's commands, after texts of so many bytes
abbrev pub commands : Table → Made → ℕ → Step → Result Texts PlanFault
commands vars made bytes step =
    if has_commands step && not (copies vars made step) then put_variable vars made ([], bytes) (commands_of made step) else Ok ([], bytes)

-- steps, and how many bytes their texts have
abbrev pub Stepped : Type 0
Stepped = List StepRow × ℕ

-- what is run in a step that the package has, after texts of so many bytes
abbrev pub step_row : Table → Made → ℕ → Step → Result (StepRow × ℕ) PlanFault
step_row vars made bytes step =
    hooks vars made bytes (hooks_before made step) >>= λ before. commands vars made before.1 step >>= λ lines. hooks vars made lines.1 (hooks_behind made step) >>= λ after.
    Ok (record { step = step; before = before.0; copy_source = copies vars made step; lines = lines.0; after = after.0 }, after.1)

-- a step that the package has, after others
abbrev pub put_row : Table → Made → Stepped → Step → Result Stepped PlanFault
put_row vars made steps step = step_row vars made steps.1 step >>= λ row. Ok (steps.0 ++ row.0 ∷ [], row.1)

-- a step after others, if the package has it
abbrev pub put_step : Table → Made → Stepped → Step → Result Stepped PlanFault
put_step vars made steps step = has_step vars made step >>= λ has. if has then put_row vars made steps step else Ok steps

-- the steps of a task of a package
abbrev pub task_steps : Table → Made → Part → Result (List StepRow) PlanFault
task_steps vars made part = in_turn (put_step vars made) ([], 0) (steps_of part made.host) >>= λ steps. Ok steps.0
