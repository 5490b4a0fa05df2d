-- Out of memory is no fault of a text.
use Rattle.std.proofs.Common.{◌≡◌, ◌≢◌, ◌∙◌, ℕ, Bool, true, false, cond, List, length, Option, Some, None}
use Rattle.std.specs.Prelude.{◌==◌, ◌&&◌, codes}
use Rattle.mk_expand.specs.declared.bracket.Bracket.{Bracket}
use Rattle.mk_expand.specs.declared.function.Function.{Function}
use Rattle.mk_expand.specs.declared.function.Function.TheVariants.{Subst, Strip, AddPrefix, AddSuffix, Filter, FilterOut, PatSubst, Sort, FirstWord, If, Foreach, Call as CallOf}
use Rattle.mk_expand.specs.declared.scope.Scope.{Scope}
use Rattle.mk_expand.specs.declared.fault.ExpandFault.{ExpandFault}
use Rattle.mk_expand.specs.declared.fault.ExpandFault.TheVariants.{BadCall, Unsupported, Memory}
use Rattle.br_path.specs.Text.{is_text}
use Rattle.mk_expand.specs.Call.{refusal}
use Rattle.mk_expand.specs.Meaning.{Environment}
use Rattle.mk_expand.specs.Failure.{FailsWith, fails, FailsPiece, costly, stray_end, stray, unclosed, short, deep, within, FailsInside, its_one, long, name_fails, named_fails, strict_fails, test_fails, branch_fails, variable_fails, list_fails, each_fails, FailsNamed, refused, met, too_long, later_fails, FailsAll, arg_fails, arg_refused, later_arg, FailsEach, here, further}

-- what is refused, if anything is, isn't out of memory
abbrev Holds : Option ExpandFault → Type 0
Holds cause = (fault : ExpandFault) → cause ≡ Some fault → fault ≢ Memory

none_holds : Holds None
none_holds fault e m = cc

some_holds : (cause : ExpandFault) → cause ≢ Memory → Holds (Some cause)
some_holds cause n fault e m = let same : cause ≡ fault = cc in n (same ∙ m)

choice_holds : (b : Bool) (one other : Option ExpandFault) → Holds one → Holds other → Holds (cond b one other)
choice_holds true one other p q = p
choice_holds false one other p q = q

bad_call_holds : Holds (Some BadCall)
bad_call_holds = some_holds BadCall (λ e. cc)

unsupported_holds : (name : List ℕ) → Holds (Some (Unsupported name))
unsupported_holds name = some_holds (Unsupported name) (λ e. cc)

-- what `call` refuses, by its tests
call_holds : (first known few : Bool) (name : List ℕ) → Holds (cond first (cond known (cond few (Some BadCall) None) (Some (Unsupported name))) None)
call_holds first known few name =
    choice_holds first (cond known (cond few (Some BadCall) None) (Some (Unsupported name))) None
    (choice_holds known (cond few (Some BadCall) None) (Some (Unsupported name)) (choice_holds few (Some BadCall) None bad_call_holds none_holds) (unsupported_holds name))
    none_holds

refusal_holds : (function : Function) (count : ℕ) (value : List ℕ) (behind : ℕ) → Holds (refusal function count value behind)
refusal_holds Subst count value behind = choice_holds (count == 0 && length value == 0) (Some BadCall) None bad_call_holds none_holds
refusal_holds CallOf count value behind = call_holds (count == 0) (is_text value (codes "qstrip")) (behind == 0) value
refusal_holds Strip count value behind = none_holds
refusal_holds AddPrefix count value behind = none_holds
refusal_holds AddSuffix count value behind = none_holds
refusal_holds Filter count value behind = none_holds
refusal_holds FilterOut count value behind = none_holds
refusal_holds PatSubst count value behind = none_holds
refusal_holds Sort count value behind = none_holds
refusal_holds FirstWord count value behind = none_holds
refusal_holds If count value behind = none_holds
refusal_holds Foreach count value behind = none_holds

mutual
  pub text_held : {vars : Environment} {depth : ℕ} {scope : Scope} {spent : ℕ} {text : List ℕ} {fault : ExpandFault} → FailsWith vars depth scope spent text fault → fault ≢ Memory
  text_held (fails front rest bytes v low piece) = piece_held piece

  piece_held : {vars : Environment} {depth : ℕ} {scope : Scope} {spent : ℕ} {text : List ℕ} {fault : ExpandFault} → FailsPiece vars depth scope spent text fault → fault ≢ Memory
  piece_held (costly piece rest bytes p high) = λ e. cc
  piece_held stray_end = λ e. cc
  piece_held (stray one two three) = λ e. cc
  piece_held (unclosed kind u) = λ e. cc
  piece_held (short kind text rest n e) = λ e. cc
  piece_held (deep kind text rest n e) = λ e. cc
  piece_held (within kind text rest n inside) = inside_held inside

  inside_held : {vars : Environment} {depth : ℕ} {scope : Scope} {spent : ℕ} {kind : Bracket} {text : List ℕ} {fault : ExpandFault} → FailsInside vars depth scope spent kind text fault → fault ≢ Memory
  inside_held (its_one n high) = λ e. cc
  inside_held (long bytes i high) = λ e. cc
  inside_held (name_fails e low f) = text_held f
  inside_held (named_fails name e v low f) = named_held f
  inside_held (strict_fails function args e low f) = values_held f
  inside_held (test_fails test one other e low f) = text_held f
  inside_held (branch_fails test one other value e v low f) = text_held f
  inside_held (variable_fails var list body e low f) = text_held f
  inside_held (list_fails var list body name e v low f) = text_held f
  inside_held (each_fails var list body name items e v l low f) = each_held f

  pub named_held : {vars : Environment} {depth : ℕ} {scope : Scope} {spent : ℕ} {name : List ℕ} {fault : ExpandFault} → FailsNamed vars depth scope spent name fault → fault ≢ Memory
  named_held (refused e) = λ e. cc
  named_held (met e) = λ e. cc
  named_held (too_long bytes n high) = λ e. cc
  named_held (later_fails text e f) = text_held f

  values_held : {vars : Environment} {depth : ℕ} {scope : Scope} {spent count : ℕ} {function : Function} {args : List (List ℕ)} {fault : ExpandFault} → FailsAll vars depth scope spent function count args fault → fault ≢ Memory
  values_held (arg_fails f) = text_held f
  values_held {count = count} {function = function} {fault = fault} (arg_refused {args = args} value v low r) = refusal_holds function count value (length args) fault r
  values_held (later_arg value v low r f) = values_held f

  each_held : {vars : Environment} {depth : ℕ} {scope : Scope} {spent : ℕ} {name body : List ℕ} {words : List (List ℕ)} {fault : ExpandFault} → FailsEach vars depth scope spent name body words fault → fault ≢ Memory
  each_held (here f) = text_held f
  each_held (further bytes v low f) = each_held f
