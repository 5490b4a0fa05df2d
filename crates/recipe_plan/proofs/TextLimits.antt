-- The texts of a task stay within their limit, and so do their lines.
use Rattle.std.proofs.Common.{◌≡◌, ◌≢◌, ℕ, suc, ◌+◌, ◌≤◌, Bool, true, false, cond, not, ◌&&◌, List, [], ◌∷◌, ◌++◌, length, filter, Result, Ok, Err, refl, sym, ap, subst, ◌∙◌, arith}
use Rattle.std.specs.Prelude.{All, flat_map, nat_le, ◌==◌}
use Rattle.std.specs.List.{slice_split, onto_first, AllByRecursion}
use Rattle.std.proofs.lemmas.List.{append-nil, length-append, length-drop, length-map}
use Rattle.std.proofs.lemmas.List.Concat.{flat_map-append}
use Rattle.std.proofs.lemmas.List.Elements.{All-nil, All-cons, All-from_recursion, All-head, All-tail, All-append, All-push, All-weaker, All-map, All-filter}
use Rattle.std.proofs.lemmas.Bool.Decides.{nat_tests}
use Rattle.mk_expand.specs.Vars.{Table}
use Rattle.mk_expand.specs.Words.{words}
use Rattle.mk_expand.specs.declared.fault.ExpandFault.TheVariants.{TooCostly}
use Rattle.plan_rows.specs.declared.rows.CommandLine.{CommandLine}
use Rattle.plan_rows.specs.declared.rows.Part.{Part}
use Rattle.plan_rows.specs.declared.rows.Part.TheVariants.{Prep, Make}
use Rattle.plan_rows.specs.declared.rows.Step.{Step}
use Rattle.plan_rows.specs.declared.rows.Step.TheVariants.{Populate, Extract, Patch, Configure, Build, Host, Staging, Target}
use Rattle.plan_rows.specs.declared.rows.StepRow.{StepRow}
use Rattle.plan_rows.specs.Rows.{AreLines, IsStepRow}
use Rattle.recipe_set.specs.declared.packages.Made.{Made}
use Rattle.recipe_set.specs.declared.fault.PlanFault.{PlanFault}
use Rattle.recipe_set.specs.declared.fault.PlanFault.TheVariants.{Expand}
use Rattle.recipe_plan.specs.Answers.{◌>>=◌, in_turn}
use Rattle.recipe_plan.specs.Lines.{command_line, command_lines, front_length, is_filled_line}
use Rattle.recipe_plan.specs.Steps.{Stepped, steps_of, copies, commands, step_row, put_row, put_step, has_step, task_steps, hooks_before, hooks_behind, commands_of, has_commands}
use Rattle.recipe_plan.specs.Texts.{Texts, text_limit, value, put_text, put_variable, hooks}

-- ---- things one after another

-- what comes of a thing and the next comes of both
pub bind_ok : {A B : Type 0} (r : Result A PlanFault) (next : A → Result B PlanFault) (t : B) → (r >>= next) ≡ Ok t → (v : A) × (r ≡ Ok v) × (next v ≡ Ok t)
bind_ok (Ok v) next t is = (v, refl, is)
bind_ok (Err fault) next t is = absurd (cc)

-- what each step keeps holds at the end
pub in_turn_keeps : {S X : Type 0} (put : S → X → Result S PlanFault) (Q : X → Type 0) (P : S → Type 0) → ((s : S) (x : X) (t : S) → Q x → P s → put s x ≡ Ok t → P t)
    → (s : S) (xs : List X) (t : S) → All Q xs → P s → in_turn put s xs ≡ Ok t → P t
in_turn_keeps put Q P keeps s [] t each holds is = let same : s ≡ t = cc in subst P same holds
in_turn_keeps put Q P keeps s (x ∷ xs) t each holds is =
    let next = bind_ok (put s x) (λ more. in_turn put more xs) t is in
    in_turn_keeps put Q P keeps next.0 xs t (All-tail Q x xs each) (keeps s x next.0 (All-head Q x xs each) holds next.1) next.2

-- ---- the lines of a text

-- a part that grows by an element counts once at most
filter-onto_first : {X : Type 0} (test : List X → Bool) (x : X) (parts : List (List X)) → length (filter test (onto_first x parts)) ≤ length (filter test parts) + 1
filter-onto_first test x [] = elim (test (x ∷ [])) as (λ b. length (cond b ((x ∷ []) ∷ []) []) ≤ 0 + 1) [
  | true ↦ omega arith
  | false ↦ omega arith
]
filter-onto_first test x (part ∷ parts) =
    elim (test (x ∷ part)) as (λ b. length (cond b ((x ∷ part) ∷ filter test parts) (filter test parts)) ≤ length (cond (test part) (part ∷ filter test parts) (filter test parts)) + 1) [
      | true ↦ elim (test part) as (λ c. suc (length (filter test parts)) ≤ length (cond c (part ∷ filter test parts) (filter test parts)) + 1) [
        | true ↦ omega arith
        | false ↦ omega arith
      ]
      | false ↦ elim (test part) as (λ c. length (filter test parts) ≤ length (cond c (part ∷ filter test parts) (filter test parts)) + 1) [
        | true ↦ omega arith
        | false ↦ omega arith
      ]
    ]

-- where the empty part doesn't count, no more parts count than a list has elements
filled_parts : {X : Type 0} (test : List X → Bool) (p : X → Bool) (xs : List X) → test [] ≡ false → length (filter test (slice_split p xs)) ≤ length xs
filled_parts test p [] empty = rw empty (omega arith)
filled_parts test p (x ∷ xs) empty =
    let rest = filled_parts test p xs empty in
    elim (p x) as (λ b. length (filter test (cond b ([] ∷ slice_split p xs) (onto_first x (slice_split p xs)))) ≤ suc (length xs)) [
      | true ↦ rw empty (omega arith)
      | false ↦ omega (arith, filter-onto_first test x (slice_split p xs))
    ]

onto_first-short : {X : Type 0} (x : X) (parts : List (List X)) (most : ℕ) → All (λ part. length part ≤ most) parts → All (λ part. length part ≤ suc most) (onto_first x parts)
onto_first-short {X} x [] most short = All-cons (λ (part : List X). length part ≤ suc most) (x ∷ []) [] (omega arith) (All-nil (λ (part : List X). length part ≤ suc most))
onto_first-short {X} x (part ∷ parts) most short =
    let first = All-head (λ (other : List X). length other ≤ most) part parts short in
    All-cons (λ (other : List X). length other ≤ suc most) (x ∷ part) parts (omega (arith, first))
    (All-weaker (λ (other : List X). length other ≤ most) (λ (other : List X). length other ≤ suc most) (λ other below. omega (arith, below)) parts
    (All-tail (λ (other : List X). length other ≤ most) part parts short))

-- no part of a list is longer than it
short_parts : {X : Type 0} (p : X → Bool) (xs : List X) → All (λ part. length part ≤ length xs) (slice_split p xs)
short_parts {X} p [] = All-cons (λ (part : List X). length part ≤ 0) [] [] (omega arith) (All-nil (λ (part : List X). length part ≤ 0))
short_parts {X} p (x ∷ xs) =
    let rest = short_parts p xs in
    elim (p x) as (λ b. All (λ part. length part ≤ suc (length xs)) (cond b ([] ∷ slice_split p xs) (onto_first x (slice_split p xs)))) [
      | true ↦ All-cons (λ (part : List X). length part ≤ suc (length xs)) [] (slice_split p xs) (omega arith)
          (All-weaker (λ (part : List X). length part ≤ length xs) (λ (part : List X). length part ≤ suc (length xs)) (λ part below. omega (arith, below)) (slice_split p xs) rest)
      | false ↦ onto_first-short x (slice_split p xs) (length xs) rest
    ]

-- a line has at most so many bytes
abbrev IsShort : ℕ → CommandLine → Type 0
IsShort most line = length line.text ≤ most

few_lines : (text : List ℕ) → length (command_lines text) ≤ length text
few_lines text = omega (arith, length-map (filter is_filled_line (slice_split (λ byte. byte == 10) text)) command_line, filled_parts is_filled_line (λ byte. byte == 10) text refl)

short_lines : (text : List ℕ) → All (IsShort (length text)) (command_lines text)
short_lines text =
    let parts = slice_split (λ byte. byte == 10) text in
    All-map (IsShort (length text)) command_line (filter is_filled_line parts)
    (All-filter is_filled_line (λ part. IsShort (length text) (command_line part)) parts
    (All-weaker (λ (part : List ℕ). length part ≤ length text) (λ part. IsShort (length text) (command_line part)) (λ part below. omega (arith, below, length-drop (front_length part) part)) parts
    (short_parts (λ byte. byte == 10) text)))

-- ---- the texts of a task

-- lines after texts of so many bytes: each line has a byte of its own, and none passes the limit
pub record AreTexts (before : ℕ) (texts : Texts) : Type 0 where
  pub lines : length texts.0 + before ≤ texts.1
  pub limit : texts.1 ≤ text_limit
  pub short : All (IsShort text_limit) texts.0

no_texts : (before : ℕ) → before ≤ text_limit → AreTexts before ([], before)
no_texts before inside = record { lines = omega arith; limit = inside; short = All-nil (IsShort text_limit) }

put_text-keeps : (made : Made) (variable : List ℕ) (before : ℕ) (texts : Texts) (text : List ℕ) (more : Texts)
    → AreTexts before texts → put_text made variable texts text ≡ Ok more → AreTexts before more
put_text-keeps made variable before texts text more are is = by (nat_le (texts.1 + length text) text_limit) refl is
  where
    by : (b : Bool) → nat_le (texts.1 + length text) text_limit ≡ b
        → cond b (Ok (texts.0 ++ command_lines text, texts.1 + length text)) (Err (Expand made.name variable TooCostly)) ≡ Ok more → AreTexts before more
    by true fits is =
        let same : ◌≡◌ {A = Texts} (texts.0 ++ command_lines text, texts.1 + length text) more = cc in
        let inside : texts.1 + length text ≤ text_limit = grind (arith, nat_tests) in
        subst (AreTexts before) same (record {
          lines = omega (arith, are.lines, length-append texts.0 (command_lines text), few_lines text);
          limit = inside;
          short = All-append (IsShort text_limit) texts.0 (command_lines text) are.short
              (All-weaker (IsShort (length text)) (IsShort text_limit) (λ line below. omega (arith, below, inside)) (command_lines text) (short_lines text));
        })
    by false passes is = absurd (cc)

put_variable-keeps : (vars : Table) (made : Made) (before : ℕ) (texts : Texts) (variable : List ℕ) (more : Texts)
    → AreTexts before texts → put_variable vars made texts variable ≡ Ok more → AreTexts before more
put_variable-keeps vars made before texts variable more are is =
    let text = bind_ok (value vars made variable) (put_text made variable texts) more is in
    put_text-keeps made variable before texts text.0 more are text.2

hooks_fit : (vars : Table) (made : Made) (before : ℕ) (variable : List ℕ) (texts : Texts) → before ≤ text_limit → hooks vars made before variable ≡ Ok texts → AreTexts before texts
hooks_fit vars made before variable texts inside is =
    let names = bind_ok (value vars made variable) (λ text. in_turn (put_variable vars made) ([], before) (words text)) texts is in
    in_turn_keeps (put_variable vars made) (λ _. Unit {0}) (AreTexts before) (λ s name t _ are put. put_variable-keeps vars made before s name t are put)
    ([], before) (words names.0) texts (λ _ _ _. tt) (no_texts before inside) names.2

commands_fit : (vars : Table) (made : Made) (before : ℕ) (step : Step) (texts : Texts) → before ≤ text_limit → commands vars made before step ≡ Ok texts → AreTexts before texts
commands_fit vars made before step texts inside is = by (has_commands step && not (copies vars made step)) is
  where
    by : (b : Bool) → cond b (put_variable vars made ([], before) (commands_of made step)) (Ok ([], before)) ≡ Ok texts → AreTexts before texts
    by true is = put_variable-keeps vars made before ([], before) (commands_of made step) texts (no_texts before inside) is
    by false is = let same : ◌≡◌ {A = Texts} ([], before) texts = cc in subst (AreTexts before) same (no_texts before inside)

-- where the source is copied, there are no commands
no_commands : (vars : Table) (made : Made) (before : ℕ) (step : Step) (texts : Texts) → copies vars made step ≡ true → commands vars made before step ≡ Ok texts → texts.0 ≡ []
no_commands vars made before step texts copied is = by (has_commands step) (copies vars made step) copied is
  where
    by : (has copied : Bool) → copied ≡ true → cond (has && not copied) (put_variable vars made ([], before) (commands_of made step)) (Ok ([], before)) ≡ Ok texts → texts.0 ≡ []
    by true true copied is = let same : ◌≡◌ {A = Texts} ([], before) texts = cc in sym (ap (λ t. t.0) same)
    by false true copied is = let same : ◌≡◌ {A = Texts} ([], before) texts = cc in sym (ap (λ t. t.0) same)
    by has false copied is = absurd (cc)

-- only to extract is the source copied
copies_extracts : (vars : Table) (made : Made) (step : Step) → copies vars made step ≡ true → step ≡ Extract
copies_extracts vars made Extract copied = refl
copies_extracts vars made Populate copied = absurd (cc)
copies_extracts vars made Patch copied = absurd (cc)
copies_extracts vars made Configure copied = absurd (cc)
copies_extracts vars made Build copied = absurd (cc)
copies_extracts vars made Host copied = absurd (cc)
copies_extracts vars made Staging copied = absurd (cc)
copies_extracts vars made Target copied = absurd (cc)

-- ---- the steps of a task

abbrev pub step_lines : StepRow → List CommandLine
step_lines step = step.before ++ step.lines ++ step.after

-- what is run in a step, after texts of so many bytes
record IsStepped (before : ℕ) (row : StepRow × ℕ) : Type 0 where
  lines : length (step_lines row.0) + before ≤ row.1
  limit : row.1 ≤ text_limit
  short : All (IsShort text_limit) (step_lines row.0)
  step : IsStepRow row.0

step_fits : (vars : Table) (made : Made) (before : ℕ) (step : Step) (row : StepRow × ℕ) → step ≢ Populate → before ≤ text_limit → step_row vars made before step ≡ Ok row → IsStepped before row
step_fits vars made before step row filled inside is =
    let (first, first_is, rest) = bind_ok (hooks vars made before (hooks_before made step)) _ row is in
    let (lines, lines_is, last) = bind_ok (commands vars made first.1 step) _ row rest in
    let (after, after_is, end) = bind_ok (hooks vars made lines.1 (hooks_behind made step)) _ row last in
    let first_fits = hooks_fit vars made before (hooks_before made step) first inside first_is in
    let lines_fit = commands_fit vars made first.1 step lines first_fits.limit lines_is in
    let after_fits = hooks_fit vars made lines.1 (hooks_behind made step) after lines_fit.limit after_is in
    let same : ◌≡◌ {A = StepRow × ℕ} (record { step = step; before = first.0; copy_source = copies vars made step; lines = lines.0; after = after.0 }, after.1) row = cc in
    subst (IsStepped before) same (record {
      lines = omega (arith, first_fits.lines, lines_fit.lines, after_fits.lines, length-append (first.0 ++ lines.0) after.0, length-append first.0 lines.0);
      limit = after_fits.limit;
      short = All-append (IsShort text_limit) (first.0 ++ lines.0) after.0 (All-append (IsShort text_limit) first.0 lines.0 first_fits.short lines_fit.short) after_fits.short;
      step = record {
        no_filling = filled;
        extracts = copies_extracts vars made step;
        no_commands = λ copied. no_commands vars made first.1 step lines copied lines_is;
      };
    })

-- steps whose texts have so many bytes
pub record AreSteps (steps : Stepped) : Type 0 where
  pub lines : length (flat_map step_lines steps.0) ≤ steps.1
  pub limit : steps.1 ≤ text_limit
  pub short : All (IsShort text_limit) (flat_map step_lines steps.0)
  pub rows : All IsStepRow steps.0

no_steps : AreSteps ([], 0)
no_steps = record { lines = omega arith; limit = omega arith; short = All-nil (IsShort text_limit); rows = All-nil IsStepRow }

lines_of-push : (steps : List StepRow) (step : StepRow) → flat_map step_lines (steps ++ step ∷ []) ≡ flat_map step_lines steps ++ step_lines step
lines_of-push steps step = flat_map-append step_lines steps (step ∷ []) ∙ ap (λ lines. flat_map step_lines steps ++ lines) (append-nil (step_lines step))

push_step : (steps : Stepped) (row : StepRow × ℕ) → AreSteps steps → IsStepped steps.1 row → AreSteps (steps.0 ++ row.0 ∷ [], row.1)
push_step steps row are is =
    let lines = lines_of-push steps.0 row.0 in
    record {
      lines = omega (arith, ap length lines, length-append (flat_map step_lines steps.0) (step_lines row.0), are.lines, is.lines);
      limit = is.limit;
      short = subst (All (IsShort text_limit)) (sym lines) (All-append (IsShort text_limit) (flat_map step_lines steps.0) (step_lines row.0) are.short is.short);
      rows = All-push IsStepRow steps.0 row.0 are.rows is.step;
    }

put_step-keeps : (vars : Table) (made : Made) (steps : Stepped) (step : Step) (more : Stepped) → step ≢ Populate → AreSteps steps → put_step vars made steps step ≡ Ok more → AreSteps more
put_step-keeps vars made steps step more filled are is =
    let has = bind_ok (has_step vars made step) _ more is in
    by has.0 has.2
  where
    by : (has : Bool) → cond has (put_row vars made steps step) (Ok steps) ≡ Ok more → AreSteps more
    by true is =
        let (row, row_is, end) = bind_ok (step_row vars made steps.1 step) _ more is in
        let same : ◌≡◌ {A = Stepped} (steps.0 ++ row.0 ∷ [], row.1) more = cc in
        subst AreSteps same (push_step steps row are (step_fits vars made steps.1 step row filled are.limit row_is))
    by false is = let same : steps ≡ more = cc in subst AreSteps same are

-- no task has the step of the filling
no_filling : (part : Part) (host : Bool) → All (λ step. step ≢ Populate) (steps_of part host)
no_filling part host = All-from_recursion (λ step. step ≢ Populate) (steps_of part host) (each part host)
  where
    each : (part : Part) (host : Bool) → AllByRecursion (λ step. step ≢ Populate) (steps_of part host)
    each Prep host = (λ is. cc, (λ is. cc, tt))
    each Make true = (λ is. cc, (λ is. cc, (λ is. cc, tt)))
    each Make false = (λ is. cc, (λ is. cc, (λ is. cc, (λ is. cc, tt))))

-- the lines and the steps of a task are those of a row
pub steps_fit : (vars : Table) (made : Made) (part : Part) (steps : List StepRow) → task_steps vars made part ≡ Ok steps → AreLines (flat_map step_lines steps) × All IsStepRow steps
steps_fit vars made part steps is =
    let (stepped, stepped_is, end) = bind_ok (in_turn (put_step vars made) ([], 0) (steps_of part made.host)) _ steps is in
    let are = in_turn_keeps (put_step vars made) (λ step. step ≢ Populate) AreSteps (λ s step t filled are put. put_step-keeps vars made s step t filled are put)
    ([], 0) (steps_of part made.host) stepped (no_filling part made.host) no_steps stepped_is in
    let same : stepped.0 ≡ steps = cc in
    subst (λ rows. AreLines (flat_map step_lines rows) × All IsStepRow rows) same (record { few = omega (arith, are.lines, are.limit); short = are.short }, are.rows)
