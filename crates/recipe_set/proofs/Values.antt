-- What hangs on the value of a text.
use Rattle.std.proofs.Common.{◌≡◌, ℕ, List, [], Err, Result, IfErr, sym, subst}
use Rattle.mk_expand.specs.declared.fault.ExpandFault.{ExpandFault}
use Rattle.mk_expand.specs.declared.locals.Local.{Local}
use Rattle.mk_expand.specs.Vars.{Table, found}
use Rattle.mk_expand.specs.Value.{depth_limit}
use Rattle.mk_expand.specs.Answer.{IsFault, outside}
use Rattle.recipe_set.specs.declared.fault.PlanFault.{PlanFault}
use Rattle.recipe_set.specs.Effect.{Expanded, fails}
use Rattle.recipe_set.specs.Steps.{IsRefusal, IsStep, IsAnswer, HasNoValue}

-- a fault of a text outside all calls
pub is_outside : (vars : Table) (text shown : List ℕ) (locals : List Local) (fault : ExpandFault) → shown ≡ text → locals ≡ [] → IsFault (found vars) depth_limit (outside locals) shown fault → IsFault (found vars) depth_limit (outside []) text fault
is_outside vars text shown locals fault same none is_fault =
    subst (λ l. IsFault (found vars) depth_limit (outside l) text fault) none (subst (λ t. IsFault (found vars) depth_limit (outside locals) t fault) same is_fault)

-- a text that has no value
pub no_value : {A : Type 0} (folder variable : List ℕ) (vars : Table) (text : List ℕ) (hangs : List ℕ → Result A PlanFault → Type 0) (refused : PlanFault) (shown : List ℕ) → shown ≡ variable → HasNoValue folder shown vars text refused →
    Expanded folder variable vars text hangs (Err refused)
no_value folder variable vars text hangs refused shown same (fault, is_fault, is) =
    subst (λ v. Expanded folder v vars text hangs (Err refused)) same (subst (λ f. Expanded folder shown vars text hangs (Err f)) (sym is) (fails fault is_fault))

-- a step, or a question, that hands a fault on
pub handed_step : {A : Type 0} (May : Result A PlanFault → Type 0) (result : Result Unit PlanFault) (new : A) (fault : PlanFault) → result ≡ Err fault → IsRefusal May fault → IsStep May result new
handed_step May result new fault is refusal = subst (λ r. IsStep May r new) (sym is) refusal

pub handed_answer : {A : Type 0} (May : Result A PlanFault → Type 0) (result : Result A PlanFault) (fault : PlanFault) → result ≡ Err fault → IsRefusal May fault → IsAnswer May result
handed_answer May result fault is refusal = subst (IsAnswer May) (sym is) refusal

-- a fault that is handed on
pub handed_fault : {A : Type 0} (P : PlanFault → Type 0) (result : Result A PlanFault) (fault : PlanFault) → result ≡ Err fault → P fault → IfErr result P
handed_fault P result fault is holds = subst (λ r. IfErr r P) (sym is) holds
