-- What a reference by name comes to: what the name stands for, or its fault.
use Rattle.std.proofs.Common.{◌≡◌, ◌≢◌, inl, inr, ℕ, ◌+◌, ◌<◌, ◌≤◌, List, [], length, Result, Ok, Err, refl, ap, sym, ◌∙◌, subst, arith}
use Rattle.std.proofs.lemmas.Bool.{cases_lt}
use Rattle.mk_expand.specs.declared.locals.Local.{Local}
use Rattle.mk_expand.specs.declared.fault.ExpandFault.{ExpandFault}
use Rattle.mk_expand.specs.declared.fault.ExpandFault.TheVariants.{TooCostly, Memory}
use Rattle.mk_expand.specs.Meaning.{Environment}
use Rattle.mk_expand.specs.Draft.{State, put, cost_limit}
use Rattle.mk_expand.specs.Value.{HasNamed}
use Rattle.mk_expand.specs.Failure.{FailsNamed}
use Rattle.mk_expand.specs.Pass.{Run, named, text_run}
use Rattle.mk_expand.specs.Answer.{outside}
use Rattle.mk_expand.specs.Reference.{text_of, given_name, reference_run, IsNameValue, IsNameFault}
use Rattle.mk_expand.proofs.Steps.{bind_ok, bind_err, pay_ok, put_ok, put_over}
use Rattle.mk_expand.proofs.Lengths.{length_named}
use Rattle.mk_expand.proofs.Complete.{complete_named}
use Rattle.mk_expand.proofs.Exact.{exact_named}
use Rattle.mk_expand.proofs.Outcome.{Tells, tells, tells_named}
use Rattle.mk_expand.proofs.NoMemory.{named_held}

-- the text of a run is that of its state
pub run_of_text : (bytes : List ℕ) (r : Run) → text_of r ≡ Ok bytes → (cost : ℕ) × (r ≡ Ok (bytes, cost))
run_of_text bytes (Ok (w, k)) e = let same : w ≡ bytes = cc in (k, ap (λ w. Ok (w, k)) same)
run_of_text bytes (Err f) e = absurd cc

-- and its fault is that of the run
pub run_of_fault : (cause : ExpandFault) (r : Run) → text_of r ≡ Err cause → r ≡ Err cause
run_of_fault cause (Ok s) e = absurd cc
run_of_fault cause (Err f) e = let same : f ≡ cause = cc in ap (λ f. Err f) same

-- the cost of a reference and of a name
given_fits : (name : List ℕ) → 1 + length name ≤ cost_limit → given_name name ≡ Ok (name, 1 + length name)
given_fits name low = bind_ok (λ s. put name s) (pay_ok [] 0 (omega arith)) ∙ put_ok name [] 1 low

given_over : (name : List ℕ) → cost_limit < 1 + length name → given_name name ≡ Err TooCostly
given_over name high = bind_ok (λ s. put name s) (pay_ok [] 0 (omega arith)) ∙ put_over name [] 1 (omega arith) high

module _ (Has : List ℕ → ℕ → Type 0) (Fails : ExpandFault → Type 0) (k : ℕ) where
  told_value : (bytes : List ℕ) (r : Run) → Tells Has Fails [] k r → text_of r ≡ Ok bytes → (cost : ℕ) × Has bytes cost × (k + cost ≤ cost_limit)
  told_value bytes (Ok s) told e =
      let same : told.bytes ≡ bytes = ap (λ s. s.0) (sym told.written) ∙ (let here : s.0 ≡ bytes = cc in here) in
      let P : List ℕ → Type 0 = λ bytes. Has bytes told.cost in
      (told.cost, subst P same told.has, told.low)
  told_value bytes (Err f) told e = absurd cc

  told_fault : (cause : ExpandFault) (r : Run) → Tells Has Fails [] k r → text_of r ≡ Err cause → Fails cause
  told_fault cause (Ok s) told e = absurd cc
  told_fault cause (Err f) told e = let same : f ≡ cause = cc in subst Fails same told

module _ (vars : Environment) (depth : ℕ) (locals : List Local) (name : List ℕ) where
  -- how a name goes on after the cost of the reference
  abbrev going_on : State → Run
  going_on t = named vars (text_run vars depth) (outside locals) name ([], t.1)

  pub run_fits : 1 + length name ≤ cost_limit → reference_run vars depth locals name ≡ named vars (text_run vars depth) (outside locals) name ([], 1 + length name)
  run_fits low = bind_ok going_on (given_fits name low)

  pub run_over : cost_limit < 1 + length name → reference_run vars depth locals name ≡ Err TooCostly
  run_over high = bind_err going_on (given_over name high)

  told_named : 1 + length name ≤ cost_limit →
      Tells (HasNamed vars depth (outside locals) name) (FailsNamed vars depth (outside locals) (1 + length name) name) [] (1 + length name)
      (named vars (text_run vars depth) (outside locals) name ([], 1 + length name))
  told_named low = tells_named vars depth (outside locals) (λ scope text w k low. tells vars depth scope text w k low) name [] (1 + length name) low

  pub value_of_name : (bytes : List ℕ) → text_of (reference_run vars depth locals name) ≡ Ok bytes → IsNameValue vars depth locals name bytes
  value_of_name bytes e =
      elim (cases_lt cost_limit (1 + length name)) as (λ _. IsNameValue vars depth locals name bytes) [
        | inl high ↦ let never : ◌≡◌ {A = Result (List ℕ) ExpandFault} (Err TooCostly) (Ok bytes) = sym (ap text_of (run_over high)) ∙ e in absurd cc
        | inr low ↦ told_value (HasNamed vars depth (outside locals) name) (FailsNamed vars depth (outside locals) (1 + length name) name) (1 + length name) bytes
            (named vars (text_run vars depth) (outside locals) name ([], 1 + length name)) (told_named low) (sym (ap text_of (run_fits low)) ∙ e)
      ]

  pub name_of_value : (bytes : List ℕ) → IsNameValue vars depth locals name bytes → text_of (reference_run vars depth locals name) ≡ Ok bytes
  name_of_value bytes (cost, has, low) = ap text_of (run_fits (omega arith) ∙ complete_named has [] (1 + length name) low)

  pub fault_of_name : (cause : ExpandFault) → text_of (reference_run vars depth locals name) ≡ Err cause → IsNameFault vars depth locals name cause
  fault_of_name cause e =
      elim (cases_lt cost_limit (1 + length name)) as (λ _. IsNameFault vars depth locals name cause) [
        | inl high ↦ let here : ◌≡◌ {A = Result (List ℕ) ExpandFault} (Err TooCostly) (Err cause) = sym (ap text_of (run_over high)) ∙ e in
            let same : cause ≡ TooCostly = cc in inl (high, same)
        | inr low ↦ inr (
          low,
          told_fault (HasNamed vars depth (outside locals) name) (FailsNamed vars depth (outside locals) (1 + length name) name) (1 + length name) cause
              (named vars (text_run vars depth) (outside locals) name ([], 1 + length name)) (told_named low) (sym (ap text_of (run_fits low)) ∙ e),
        )
      ]

  pub name_of_fault : (cause : ExpandFault) → IsNameFault vars depth locals name cause → text_of (reference_run vars depth locals name) ≡ Err cause
  name_of_fault cause (inl (high, same)) = ap text_of (run_over high) ∙ ap (λ f. Err f) (sym same)
  name_of_fault cause (inr (low, failure)) = ap text_of (run_fits low ∙ exact_named failure low [])

  pub held_of_name : text_of (reference_run vars depth locals name) ≢ Err Memory
  held_of_name e = held (fault_of_name Memory e)
    where
      held : IsNameFault vars depth locals name Memory → ⊥
      held (inl (high, same)) = cc
      held (inr (low, failure)) = named_held failure refl

  -- the value of a reference has at most as many bytes as the limit
  pub length_of_name : (bytes : List ℕ) → text_of (reference_run vars depth locals name) ≡ Ok bytes → length bytes ≤ cost_limit
  length_of_name bytes e =
      let told = value_of_name bytes e in
      let short : length bytes ≤ told.0 = length_named told.1 in
      let low : 1 + length name + told.0 ≤ cost_limit = told.2 in
      omega arith
