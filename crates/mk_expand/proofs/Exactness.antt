-- A text has one answer: the pass's.
use Rattle.std.proofs.Common.{◌≡◌, ◌⊎◌, inl, inr, ℕ, ◌+◌, ◌≤◌, List, [], length, Ok, Err, refl, ap, sym, ◌∙◌, subst, arith}
use Rattle.mk_expand.specs.declared.scope.Scope.{Scope}
use Rattle.mk_expand.specs.declared.fault.ExpandFault.{ExpandFault}
use Rattle.mk_expand.specs.Meaning.{Environment}
use Rattle.mk_expand.specs.Draft.{State, cost_limit}
use Rattle.mk_expand.specs.Value.{HasValue}
use Rattle.mk_expand.specs.Failure.{FailsWith}
use Rattle.mk_expand.specs.Pass.{Run, text_run}
use Rattle.mk_expand.specs.Answer.{IsValue, IsFault, OneAnswer}
use Rattle.mk_expand.proofs.Lengths.{length_value}
use Rattle.mk_expand.proofs.Complete.{complete_from}
use Rattle.mk_expand.proofs.Exact.{exact}
use Rattle.mk_expand.proofs.Outcome.{Told, Tells, tells}

module _ (vars : Environment) (depth : ℕ) (scope : Scope) (text : List ℕ) where
  pub value_of_run : (t : State) → text_run vars depth scope text ([], 0) ≡ Ok t → IsValue vars depth scope text t.0
  value_of_run t e =
      let P : Run → Type 0 = Tells (HasValue vars depth scope text) (FailsWith vars depth scope 0 text) [] 0 in
      let told : Told (HasValue vars depth scope text) [] 0 t = subst P e (tells vars depth scope text [] 0 (omega arith)) in
      let Q : List ℕ → Type 0 = λ bytes. HasValue vars depth scope text bytes told.cost in
      let low = told.low in
      (told.cost, subst Q (sym (ap (λ t. t.0) told.written)) told.has, omega arith)

  pub fault_of_run : (f : ExpandFault) → text_run vars depth scope text ([], 0) ≡ Err f → IsFault vars depth scope text f
  fault_of_run f e =
      let P : Run → Type 0 = Tells (HasValue vars depth scope text) (FailsWith vars depth scope 0 text) [] 0 in subst P e (tells vars depth scope text [] 0 (omega arith))

  -- such a value has at most as many bytes as the limit
  pub length_of_run : (t : State) → text_run vars depth scope text ([], 0) ≡ Ok t → length t.0 ≤ cost_limit
  length_of_run t e =
      let told : IsValue vars depth scope text t.0 = value_of_run t e in
      let low : told.0 ≤ cost_limit = told.2 in
      let fits : length t.0 ≤ told.0 = length_value told.1 in
      omega arith

  pub run_of_value : {bytes : List ℕ} {cost : ℕ} → HasValue vars depth scope text bytes cost → cost ≤ cost_limit → text_run vars depth scope text ([], 0) ≡ Ok (bytes, 0 + cost)
  run_of_value v low = complete_from v [] 0 (omega arith)

  two_states : {s t : State} → ◌≡◌ {A = Run} (Ok s) (Ok t) → s ≡ t
  two_states e = cc

  abbrev Answered : Type 0
  Answered = ((bytes : List ℕ) × IsValue vars depth scope text bytes) ⊎ ((fault : ExpandFault) × IsFault vars depth scope text fault)

  pub one_answer : OneAnswer vars depth scope text
  one_answer = record {
    some =
        elim (text_run vars depth scope text ([], 0)) as (λ r. text_run vars depth scope text ([], 0) ≡ r → Answered) [
          | Ok t ↦ λ e. inl (t.0, value_of_run t e)
          | Err f ↦ λ e. inr (f, fault_of_run f e)
        ] refl;
    values = λ bytes others cost more v w low high.
        let e = two_states (sym (run_of_value v low) ∙ run_of_value w high) in
        (ap (λ s. s.0) e, let m : 0 + cost ≡ 0 + more = ap (λ s. s.1) e in omega arith);
    apart = λ bytes f v g. let e = sym (run_of_value v.1 v.2) ∙ exact g [] in cc;
    faults = λ f g h i. let e = sym (exact h []) ∙ exact i [] in cc;
  }
