-- The faults of texts and of a selection, and that none is out of memory.
use Rattle.std.proofs.Common.{ℕ, ◌≡◌, ◌≢◌, ◌+◌, Bool, true, false, not, ◌&&◌, cond, List, [], ◌∷◌, ◌++◌, length, Option, Some, None, Result, Ok, Err, refl, ap, subst}
use Rattle.std.specs.Prelude.{nat_le, codes}
use Rattle.br_path.specs.Files.{FileMap}
use Rattle.kc_values.specs.Values.{Table as Values}
use Rattle.dep_graph.specs.Needs.{Needs, needs_of}
use Rattle.mk_expand.specs.declared.locals.Local.{Local}
use Rattle.mk_expand.specs.declared.fault.ExpandFault.{ExpandFault}
use Rattle.mk_expand.specs.declared.fault.ExpandFault.TheVariants.{TooCostly, Memory as no_value_memory}
use Rattle.mk_expand.specs.Meaning.{Environment}
use Rattle.mk_expand.specs.Vars.{Table, found}
use Rattle.mk_expand.specs.Words.{words}
use Rattle.br_path.specs.Text.{is_text}
use Rattle.mk_expand.specs.Reference.{reference_answer}
use Rattle.mk_expand.proofs.References.{reference_is_exact}
use Rattle.mk_expand.proofs.NoMemory.{text_held}
use Rattle.plan_rows.specs.declared.rows.Part.{Part}
use Rattle.plan_rows.specs.declared.rows.Part.TheVariants.{Prep, Make}
use Rattle.plan_rows.specs.declared.rows.Step.{Step}
use Rattle.plan_rows.specs.declared.rows.StepRow.{StepRow}
use Rattle.plan_rows.specs.declared.rows.TaskRow.{TaskRow}
use Rattle.recipe_set.specs.declared.fault.PlanFault.{PlanFault}
use Rattle.recipe_set.specs.declared.fault.PlanFault.TheVariants.{WrongName, Recipe, Expand, PatchFile, NoRecipe, UnknownDependency, NotSelected, TooManyPackages, Cycle, Memory}
use Rattle.recipe_set.specs.declared.packages.Made.{Made}
use Rattle.recipe_set.specs.declared.recipes.Recipes.{Recipes}
use Rattle.recipe_set.specs.Fault.{HoldsNoMemory}
use Rattle.selection.specs.declared.listed.Listed.{Listed}
use Rattle.selection.specs.Each.{Each, fails as one_fails, later_fails}
use Rattle.selection.specs.Lists.{HasList, fails, HasDepends, own, derived, HasLists, no_depends, no_extract, no_patch}
use Rattle.selection.specs.Selecting.{IsChecked, unknown, not_selected, too_many, IsSelecting, no_recipe, no_list, selected}
use Rattle.recipe_plan.specs.Answers.{◌>>=◌, in_turn}
use Rattle.recipe_plan.specs.Texts.{Texts, locals_of, of_variable, value, text_limit, put_text, put_variable, hooks}
use Rattle.recipe_plan.specs.Lines.{command_lines}
use Rattle.recipe_plan.specs.Steps.{Stepped, steps_of, default_of, has_commands, copies, commands_of, hooks_before, hooks_behind, setting_of, is_set, setting, has_step_by, has_step, commands, step_row, put_row, put_step, task_steps}
use Rattle.recipe_plan.specs.Rows.{row_of, task_row, put_rows, all_rows}

-- a fault of a text, which isn't out of memory
abbrev pub IsOfText : PlanFault → Type 0
IsOfText (Expand owner variable cause) = cause ≢ no_value_memory
IsOfText _ = ⊥

-- a fault, where an answer is one, is of a text
abbrev Held : {A : Type 0} → Result A PlanFault → Type 0
Held answer = (fault : PlanFault) → answer ≡ Err fault → IsOfText fault

ok_held : {A : Type 0} (x : A) → Held (Ok x)
ok_held x fault is = absurd cc

err_held : {A : Type 0} (fault : PlanFault) → IsOfText fault → Held {A = A} (Err fault)
err_held fault held other is = let same : fault ≡ other = cc in subst IsOfText same held

cond_held : {A : Type 0} (b : Bool) (one other : Result A PlanFault) → Held one → Held other → Held (cond b one other)
cond_held true one other p q = p
cond_held false one other p q = q

bind_held : {A B : Type 0} (answer : Result A PlanFault) (next : A → Result B PlanFault) → Held answer → ((x : A) → Held (next x)) → Held (answer >>= next)
bind_held (Ok x) next first then = then x
bind_held (Err fault) next first then = err_held fault (first fault refl)

turn_held : {S X : Type 0} (put : S → X → Result S PlanFault) → ((made : S) (x : X) → Held (put made x)) → (made : S) (xs : List X) → Held (in_turn put made xs)
turn_held put each made [] = ok_held made
turn_held put each made (x ∷ xs) = bind_held (put made x) (λ more. in_turn put more xs) (each made x) (λ more. turn_held put each more xs)

-- ---- the texts of a package

reference_held : (vars : Environment) (locals : List Local) (name : List ℕ) → reference_answer vars locals name ≢ Err no_value_memory
reference_held vars locals name = (reference_is_exact vars locals name).held

variable_held : (made : Made) (variable : List ℕ) (answer : Result (List ℕ) ExpandFault) → answer ≢ Err no_value_memory → Held (of_variable made variable answer)
variable_held made variable (Ok text) off = ok_held text
variable_held made variable (Err fault) off = err_held (Expand made.name variable fault) (λ is. off (ap (λ f. Err f) is))

value_held : (vars : Table) (made : Made) (variable : List ℕ) → Held (value vars made variable)
value_held vars made variable =
    variable_held made variable (reference_answer (found vars) (locals_of made) variable) (reference_held (found vars) (locals_of made) variable)

put_text_held : (made : Made) (variable : List ℕ) (texts : Texts) (text : List ℕ) → Held (put_text made variable texts text)
put_text_held made variable texts text =
    cond_held (nat_le (texts.1 + length text) text_limit) (Ok (texts.0 ++ command_lines text, texts.1 + length text)) (Err (Expand made.name variable TooCostly))
    (ok_held (texts.0 ++ command_lines text, texts.1 + length text)) (err_held (Expand made.name variable TooCostly) (λ is. cc))

put_variable_held : (vars : Table) (made : Made) (texts : Texts) (variable : List ℕ) → Held (put_variable vars made texts variable)
put_variable_held vars made texts variable =
    bind_held (value vars made variable) (λ text. put_text made variable texts text) (value_held vars made variable) (λ text. put_text_held made variable texts text)

hooks_held : (vars : Table) (made : Made) (bytes : ℕ) (variable : List ℕ) → Held (hooks vars made bytes variable)
hooks_held vars made bytes variable =
    bind_held (value vars made variable) (λ names. in_turn (put_variable vars made) ([], bytes) (words names)) (value_held vars made variable)
    (λ names. turn_held (put_variable vars made) (put_variable_held vars made) ([], bytes) (words names))

-- ---- steps

commands_held : (vars : Table) (made : Made) (bytes : ℕ) (step : Step) → Held (commands vars made bytes step)
commands_held vars made bytes step =
    cond_held (has_commands step && not (copies vars made step)) (put_variable vars made ([], bytes) (commands_of made step)) (Ok ([], bytes))
    (put_variable_held vars made ([], bytes) (commands_of made step)) (ok_held ([], bytes))

abbrev row_with : Table → Made → Step → Texts → Texts → Texts → StepRow × ℕ
row_with vars made step before lines after = (record { step = step; before = before.0; copy_source = copies vars made step; lines = lines.0; after = after.0 }, after.1)

step_row_held : (vars : Table) (made : Made) (bytes : ℕ) (step : Step) → Held (step_row vars made bytes step)
step_row_held vars made bytes step =
    bind_held (hooks vars made bytes (hooks_before made step))
    (λ before. commands vars made before.1 step >>= λ lines. hooks vars made lines.1 (hooks_behind made step) >>= λ after. Ok (row_with vars made step before lines after))
    (hooks_held vars made bytes (hooks_before made step))
    (λ before. bind_held (commands vars made before.1 step)
    (λ lines. hooks vars made lines.1 (hooks_behind made step) >>= λ after. Ok (row_with vars made step before lines after))
    (commands_held vars made before.1 step)
    (λ lines. bind_held (hooks vars made lines.1 (hooks_behind made step)) (λ after. Ok (row_with vars made step before lines after))
    (hooks_held vars made lines.1 (hooks_behind made step)) (λ after. ok_held (row_with vars made step before lines after))))

setting_held : (vars : Table) (made : Made) (step : Step) (default : Bool) → Held (setting vars made step default)
setting_held vars made step default =
    cond_held (is_set vars (setting_of made step)) (value vars made (setting_of made step) >>= λ text. Ok (is_text text (codes "YES"))) (Ok default)
    (bind_held (value vars made (setting_of made step)) (λ text. Ok (is_text text (codes "YES"))) (value_held vars made (setting_of made step)) (λ text. ok_held (is_text text (codes "YES"))))
    (ok_held default)

has_step_held : (vars : Table) (made : Made) (step : Step) (default : Option Bool) → Held (has_step_by vars made step default)
has_step_held vars made step None = ok_held true
has_step_held vars made step (Some default) = setting_held vars made step default

put_row_held : (vars : Table) (made : Made) (steps : Stepped) (step : Step) → Held (put_row vars made steps step)
put_row_held vars made steps step =
    bind_held (step_row vars made steps.1 step) (λ row. Ok (steps.0 ++ row.0 ∷ [], row.1)) (step_row_held vars made steps.1 step) (λ row. ok_held (steps.0 ++ row.0 ∷ [], row.1))

put_step_held : (vars : Table) (made : Made) (steps : Stepped) (step : Step) → Held (put_step vars made steps step)
put_step_held vars made steps step =
    bind_held (has_step vars made step) (λ has. cond has (put_row vars made steps step) (Ok steps)) (has_step_held vars made step (default_of step))
    (λ has. cond_held has (put_row vars made steps step) (Ok steps) (put_row_held vars made steps step) (ok_held steps))

task_steps_held : (vars : Table) (made : Made) (part : Part) → Held (task_steps vars made part)
task_steps_held vars made part =
    bind_held (in_turn (put_step vars made) ([], 0) (steps_of part made.host)) (λ steps. Ok steps.0)
    (turn_held (put_step vars made) (put_step_held vars made) ([], 0) (steps_of part made.host)) (λ steps. ok_held steps.0)

-- ---- rows

task_row_held : (vars : Table) (needs : Needs) (item : Listed) (part : Part) (task : ℕ) → Held (task_row vars needs item part task)
task_row_held vars needs item part task =
    bind_held (task_steps vars item.made part) (λ steps. Ok (row_of item part task (needs_of needs task) steps)) (task_steps_held vars item.made part)
    (λ steps. ok_held (row_of item part task (needs_of needs task) steps))

put_rows_held : (vars : Table) (needs : Needs) (rows : List TaskRow) (item : Listed) → Held (put_rows vars needs rows item)
put_rows_held vars needs rows item =
    bind_held (task_row vars needs item Prep (length rows)) (λ prep. task_row vars needs item Make (length rows + 1) >>= λ make. Ok (rows ++ prep ∷ make ∷ []))
    (task_row_held vars needs item Prep (length rows))
    (λ prep. bind_held (task_row vars needs item Make (length rows + 1)) (λ make. Ok (rows ++ prep ∷ make ∷ [])) (task_row_held vars needs item Make (length rows + 1))
    (λ make. ok_held (rows ++ prep ∷ make ∷ [])))

-- the fault of the rows of the tasks
pub rows_of_text : (vars : Table) (needs : Needs) (chosen : List Listed) (fault : PlanFault) → all_rows vars needs chosen ≡ Err fault → IsOfText fault
rows_of_text vars needs chosen = turn_held (put_rows vars needs) (put_rows_held vars needs) [] chosen

text_no_memory : (fault : PlanFault) → IsOfText fault → HoldsNoMemory fault
text_no_memory (WrongName path) is = tt
text_no_memory (Recipe path cause) is = tt
text_no_memory (Expand owner variable cause) is = is
text_no_memory (PatchFile path) is = tt
text_no_memory (NoRecipe name) is = tt
text_no_memory (UnknownDependency owner name) is = tt
text_no_memory (NotSelected owner name) is = tt
text_no_memory TooManyPackages is = tt
text_no_memory (Cycle task) is = tt
text_no_memory Memory is = tt

pub rows_held : (vars : Table) (needs : Needs) (chosen : List Listed) (fault : PlanFault) → all_rows vars needs chosen ≡ Err fault → HoldsNoMemory fault
rows_held vars needs chosen fault is = text_no_memory fault (rows_of_text vars needs chosen fault is)

-- ---- the fault of a selection

list_held : {vars : Table} {owner variable : List ℕ} {becomes : List (List ℕ) → List (List ℕ)} {fault : PlanFault} → HasList vars owner variable becomes (Err fault) → HoldsNoMemory fault
list_held (fails fault failure) = text_held failure

depends_held : {vars : Table} {made : Made} {fault : PlanFault} → HasDepends vars made (Err fault) → HoldsNoMemory fault
depends_held (own is list) = list_held list
depends_held (derived is list) = list_held list

lists_held : {vars : Table} {made : Made} {fault : PlanFault} → HasLists vars made (Err fault) → HoldsNoMemory fault
lists_held (no_depends fault list) = depends_held list
lists_held (no_extract depends fault first list) = list_held list
lists_held (no_patch depends extract fault first second list) = list_held list

each_held : {vars : Table} {made : List Made} {fault : PlanFault} → Each (HasLists vars) made (Err fault) → HoldsNoMemory fault
each_held (one_fails gives) = lists_held gives
each_held (later_fails first rest) = each_held rest

checked_held : {made : List Made} {chosen : List Listed} {fault : PlanFault} → IsChecked made chosen (Err fault) → HoldsNoMemory fault
checked_held (unknown owner name is) = tt
checked_held (not_selected owner name none is) = tt
checked_held (too_many none no_other many) = tt

pub selecting_held : {files : FileMap} {values : Values} {recipes : Recipes} {fault : PlanFault} → IsSelecting files values recipes (Err fault) → HoldsNoMemory fault
selecting_held (no_recipe name least) = tt
selecting_held (no_list fault none each) = each_held each
selecting_held (selected packages chosen none each are checked) = checked_held checked

-- out of memory itself holds none
pub held_unless : (fault : PlanFault) → (fault ≢ Memory → HoldsNoMemory fault) → HoldsNoMemory fault
held_unless (WrongName path) held = tt
held_unless (Recipe path cause) held = tt
held_unless (Expand owner variable cause) held = held (λ is. cc)
held_unless (PatchFile path) held = tt
held_unless (NoRecipe name) held = tt
held_unless (UnknownDependency owner name) held = tt
held_unless (NotSelected owner name) held = tt
held_unless TooManyPackages held = tt
held_unless (Cycle task) held = tt
held_unless Memory held = tt
