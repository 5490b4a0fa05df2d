-- Statements make one thing of what is read before them.
use Rattle.std.proofs.Common.{◌≡◌, ℕ, Bool, true, false, Ok, Err, Result, List, [], ◌∷◌, sym, refl, ap, ◌∙◌, subst}
use Rattle.mk_syntax.specs.declared.recipe.What.{What}
use Rattle.mk_syntax.specs.declared.recipe.What.TheVariants.{Set, Define, Make, If, ElseIf, Else, EndIf}
use Rattle.mk_syntax.specs.declared.recipe.How.{How}
use Rattle.mk_syntax.specs.declared.recipe.How.TheVariants.{Later, Now, Append, IfUnset}
use Rattle.mk_syntax.specs.declared.recipe.Test.{Test}
use Rattle.mk_syntax.specs.declared.recipe.Test.TheVariants.{Equal, Defined}
use Rattle.mk_expand.specs.declared.fault.ExpandFault.{ExpandFault}
use Rattle.mk_expand.specs.Vars.{Table, found}
use Rattle.mk_expand.specs.Value.{depth_limit}
use Rattle.mk_expand.specs.Answer.{outside}
use Rattle.mk_expand.proofs.Exactness.{one_answer}
use Rattle.recipe_set.specs.declared.draft.Draft.{Draft}
use Rattle.recipe_set.specs.declared.branch.Branch.{Branch}
use Rattle.recipe_set.specs.declared.branch.Branch.TheVariants.{Taken, Sought, Passed}
use Rattle.recipe_set.specs.declared.reader.Reader.{Reader}
use Rattle.recipe_set.specs.declared.fault.PlanFault.{PlanFault}
use Rattle.recipe_set.specs.declared.fault.PlanFault.TheVariants.{Expand}
use Rattle.recipe_set.specs.Effect.{Expanded, value, fails, Appends, Sets, Does, Asks, is_simple}
use Rattle.recipe_set.specs.Steps.{Alters, Begins, Meets, Tries, Skips, Takes, Steps, Runs, finished, stopped, onward, is_reading, kept, branched}

-- there is one such answer at most
abbrev pub Once : {A : Type 0} → (Result A PlanFault → Type 0) → Type 0
Once {A = A} May = (one other : Result A PlanFault) → May one → May other → one ≡ other

-- this one
is_once : {A : Type 0} (answer : Result A PlanFault) → Once (λ given. given ≡ answer)
is_once answer one other is was = is ∙ sym was

module _ (folder : List ℕ) where
  expanded_once : {A : Type 0} (variable : List ℕ) (vars : Table) (text : List ℕ) (hangs : List ℕ → Result A PlanFault → Type 0) → ((bytes : List ℕ) → Once (hangs bytes)) → Once (Expanded folder variable vars text hangs)
  expanded_once variable vars text hangs each one other (value bytes is_value hang) (value others was_value hung) =
      let same : others ≡ bytes = ((one_answer (found vars) depth_limit (outside []) text).values others bytes was_value.0 is_value.0 was_value.1 is_value.1 was_value.2 is_value.2).0 in
      each bytes one other hang (subst (λ b. hangs b other) same hung)
  expanded_once variable vars text hangs each one other (value bytes is_value hang) (fails fault is_fault) =
      absurd ((one_answer (found vars) depth_limit (outside []) text).apart bytes fault is_value is_fault)
  expanded_once variable vars text hangs each one other (fails fault is_fault) (value bytes is_value hang) =
      absurd ((one_answer (found vars) depth_limit (outside []) text).apart bytes fault is_value is_fault)
  expanded_once {A = A} variable vars text hangs each one other (fails fault is_fault) (fails others was_fault) =
      let refused : ExpandFault → Result A PlanFault = λ f. Err (Expand folder variable f) in
      ap refused ((one_answer (found vars) depth_limit (outside []) text).faults fault others is_fault was_fault)

  asks_once : (draft : Draft) (test : Test) → Once (Asks folder draft test)
  asks_once draft (Equal left right wanted) =
      expanded_once _ draft.vars left _ (λ one. expanded_once _ draft.vars right _ (λ other. is_once _))
  asks_once draft (Defined name wanted) = is_once _

  appends_once : (draft : Draft) (name text : List ℕ) (simple : Bool) → Once (Appends folder draft name text simple)
  appends_once draft name text true = expanded_once name draft.vars text _ (λ bytes. is_once _)
  appends_once draft name text false = is_once _

  sets_once : (draft : Draft) (name : List ℕ) (how : How) (text : List ℕ) → Once (Sets folder draft name how text)
  sets_once draft name Later text = is_once _
  sets_once draft name Now text = expanded_once name draft.vars text _ (λ bytes. is_once _)
  sets_once draft name Append text = appends_once draft name text (is_simple (found draft.vars name))
  sets_once draft name IfUnset text = is_once _

  does_once : (draft : Draft) (what : What) → Once (Does folder draft what)
  does_once draft (Set name how text) = sets_once draft name how text
  does_once draft (Define name text) = is_once _
  does_once draft (Make host) = is_once _
  does_once draft (If test) = λ one other no. absurd no
  does_once draft (ElseIf test) = λ one other no. absurd no
  does_once draft Else = λ one other no. absurd no
  does_once draft EndIf = λ one other no. absurd no

  alters_once : (draft : Draft) (around : List Branch) (what : What) → Once (Alters folder draft around what)
  alters_once draft around what one other (next, does, is) (later, did, was) =
      is ∙ ap (kept around) (does_once draft what next later does did) ∙ sym was

  begins_once : (draft : Draft) (around : List Branch) (test : Test) → Once (Begins folder draft around test)
  begins_once draft around test one other (answer, asks, is) (said, asked, was) =
      is ∙ ap (branched draft around) (asks_once draft test answer said asks asked) ∙ sym was

  meets_once : (draft : Draft) (around : List Branch) (what : What) → Once (Meets folder draft around what)
  meets_once draft around (Set name how text) = alters_once draft around (Set name how text)
  meets_once draft around (Define name text) = alters_once draft around (Define name text)
  meets_once draft around (Make host) = alters_once draft around (Make host)
  meets_once draft around (If test) = begins_once draft around test
  meets_once draft around (ElseIf test) = is_once _
  meets_once draft around Else = is_once _
  meets_once draft around EndIf = is_once _

  tries_once : (draft : Draft) (around : List Branch) (test : Test) → Once (Tries folder draft around test)
  tries_once draft [] test = is_once _
  tries_once draft (Sought ∷ around) test = begins_once draft around test
  tries_once draft (Taken ∷ around) test = is_once _
  tries_once draft (Passed ∷ around) test = is_once _

  skips_once : (draft : Draft) (around : List Branch) (what : What) → Once (Skips folder draft around what)
  skips_once draft around (Set name how text) = is_once _
  skips_once draft around (Define name text) = is_once _
  skips_once draft around (Make host) = is_once _
  skips_once draft around (If test) = is_once _
  skips_once draft around (ElseIf test) = tries_once draft around test
  skips_once draft around Else = is_once _
  skips_once draft around EndIf = is_once _

  takes_once : (reading : Bool) (draft : Draft) (around : List Branch) (what : What) → Once (Takes reading folder draft around what)
  takes_once true = meets_once
  takes_once false = skips_once

  steps_once : (reader : Reader) (what : What) → Once (Steps folder reader what)
  steps_once reader what = takes_once (is_reading reader.around) reader.draft reader.around what

  same_reader : (next later : Reader) → ◌≡◌ {A = Result Reader PlanFault} (Ok next) (Ok later) → later ≡ next
  same_reader next later is = cc

  pub runs_once : {reader : Reader} {whats : List What} {one other : Result Reader PlanFault} → Runs folder reader whats one → Runs folder reader whats other → one ≡ other
  runs_once finished finished = refl
  runs_once (stopped {reader = reader} {what = what} fault step) (stopped others stepped) = steps_once reader what (Err fault) (Err others) step stepped
  runs_once (stopped {reader = reader} {what = what} fault step) (onward next stepped runs) =
      let no : ◌≡◌ {A = Result Reader PlanFault} (Err fault) (Ok next) = steps_once reader what (Err fault) (Ok next) step stepped in absurd (cc)
  runs_once (onward {reader = reader} {what = what} next step runs) (stopped fault stepped) =
      let no : ◌≡◌ {A = Result Reader PlanFault} (Ok next) (Err fault) = steps_once reader what (Ok next) (Err fault) step stepped in absurd (cc)
  runs_once {other = other} (onward {reader = reader} {what = what} {whats = whats} next step runs) (onward later stepped ran) =
      runs_once runs (subst (λ r. Runs folder r whats other) (same_reader next later (steps_once reader what (Ok next) (Ok later) step stepped)) ran)
