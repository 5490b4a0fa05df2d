-- How a text fails: the fault that is met first from the left.
use Rattle.std.specs.Prelude.{◌≡◌, ◌≢◌, ℕ, zero, suc, ◌+◌, ◌<◌, ◌≤◌, List, [], ◌∷◌, ◌++◌, length, None, Some}
use Rattle.mk_expand.specs.declared.bracket.Bracket.{Bracket}
use Rattle.mk_expand.specs.declared.function.Function.{Function}
use Rattle.mk_expand.specs.declared.scope.Scope.{Scope}
use Rattle.mk_expand.specs.declared.fault.ExpandFault.{ExpandFault}
use Rattle.mk_expand.specs.declared.fault.ExpandFault.TheVariants.{SelfReference, BadCall, Unsupported, TooCostly}
use Rattle.mk_expand.specs.Bracket.{opening, closing, IsNested, IsUnclosed}
use Rattle.mk_expand.specs.Words.{words}
use Rattle.mk_expand.specs.Call.{Name, Short, Choice, Loop, Strict, inside_of, refusal}
use Rattle.mk_expand.specs.Meaning.{Environment, Refused, Met, Later, meaning, with_active, with_local}
use Rattle.mk_expand.specs.Draft.{cost_limit}
use Rattle.mk_expand.specs.Value.{HasValue, HasPiece, HasInside, HasNamed, chosen}

mutual
  -- at a cost so far, a text fails: what stands before one piece has a value within the limit, and that piece fails
  pub data FailsWith (vars : Environment) : ℕ → Scope → ℕ → List ℕ → ExpandFault → Type 0 where
    fails : {depth : ℕ} {scope : Scope} {spent cost : ℕ} {fault : ExpandFault} (front rest bytes : List ℕ) →
        HasValue vars depth scope front bytes cost → spent + cost ≤ cost_limit → FailsPiece vars depth scope (spent + cost) rest fault →
        FailsWith vars depth scope spent (front ++ rest) fault

  -- the first piece of a text fails
  pub data FailsPiece (vars : Environment) : ℕ → Scope → ℕ → List ℕ → ExpandFault → Type 0 where
    costly : {depth : ℕ} {scope : Scope} {spent cost : ℕ} (piece rest bytes : List ℕ) →
        HasPiece vars depth scope piece bytes cost → cost_limit < spent + cost → FailsPiece vars depth scope spent (piece ++ rest) TooCostly
    stray_end : {depth : ℕ} {scope : Scope} {spent : ℕ} → FailsPiece vars depth scope spent (36 ∷ []) (Unsupported [])
    stray : {depth : ℕ} {scope : Scope} {spent b : ℕ} {rest : List ℕ} →
        b ≢ 36 → b ≢ 40 → b ≢ 123 → FailsPiece vars depth scope spent (36 ∷ b ∷ rest) (Unsupported [])
    unclosed : {depth : ℕ} {scope : Scope} {spent : ℕ} {text : List ℕ} (kind : Bracket) →
        IsUnclosed kind text → FailsPiece vars depth scope spent (36 ∷ opening kind ∷ text) BadCall
    short : {depth : ℕ} {scope : Scope} {spent : ℕ} (kind : Bracket) (text rest : List ℕ) →
        IsNested kind 0 text → inside_of kind text ≡ Short → FailsPiece vars depth scope spent (36 ∷ opening kind ∷ text ++ closing kind ∷ rest) BadCall
    deep : {scope : Scope} {spent : ℕ} (kind : Bracket) (text rest : List ℕ) →
        IsNested kind 0 text → inside_of kind text ≢ Short → FailsPiece vars zero scope spent (36 ∷ opening kind ∷ text ++ closing kind ∷ rest) TooCostly
    within : {depth : ℕ} {scope : Scope} {spent : ℕ} {fault : ExpandFault} (kind : Bracket) (text rest : List ℕ) →
        IsNested kind 0 text → FailsInside vars depth scope spent kind text fault →
        FailsPiece vars (suc depth) scope spent (36 ∷ opening kind ∷ text ++ closing kind ∷ rest) fault

  -- the inside of a reference fails: its 1 or its whole is too costly, or what it expands fails, or its name is refused
  pub data FailsInside (vars : Environment) : ℕ → Scope → ℕ → Bracket → List ℕ → ExpandFault → Type 0 where
    its_one : {depth : ℕ} {scope : Scope} {spent : ℕ} {kind : Bracket} {text : List ℕ} →
        inside_of kind text ≢ Short → cost_limit < spent + 1 → FailsInside vars depth scope spent kind text TooCostly
    long : {depth : ℕ} {scope : Scope} {spent cost : ℕ} {kind : Bracket} {text : List ℕ} (bytes : List ℕ) →
        HasInside vars depth scope kind text bytes cost → cost_limit < spent + cost → FailsInside vars depth scope spent kind text TooCostly
    name_fails : {depth : ℕ} {scope : Scope} {spent : ℕ} {kind : Bracket} {text : List ℕ} {fault : ExpandFault} →
        inside_of kind text ≡ Name → spent + 1 ≤ cost_limit → FailsWith vars depth scope (spent + 1) text fault →
        FailsInside vars depth scope spent kind text fault
    named_fails : {depth : ℕ} {scope : Scope} {spent cost : ℕ} {kind : Bracket} {text : List ℕ} {fault : ExpandFault} (name : List ℕ) →
        inside_of kind text ≡ Name → HasValue vars depth scope text name cost → spent + 1 + cost ≤ cost_limit →
        FailsNamed vars depth scope (spent + 1 + cost) name fault → FailsInside vars depth scope spent kind text fault
    strict_fails : {depth : ℕ} {scope : Scope} {spent : ℕ} {kind : Bracket} {text : List ℕ} {fault : ExpandFault} (function : Function) (args : List (List ℕ)) →
        inside_of kind text ≡ Strict function args → spent + 1 ≤ cost_limit → FailsAll vars depth scope (spent + 1) function 0 args fault →
        FailsInside vars depth scope spent kind text fault
    test_fails : {depth : ℕ} {scope : Scope} {spent : ℕ} {kind : Bracket} {text : List ℕ} {fault : ExpandFault} (test one other : List ℕ) →
        inside_of kind text ≡ Choice test one other → spent + 1 ≤ cost_limit → FailsWith vars depth scope (spent + 1) test fault →
        FailsInside vars depth scope spent kind text fault
    branch_fails : {depth : ℕ} {scope : Scope} {spent cost : ℕ} {kind : Bracket} {text : List ℕ} {fault : ExpandFault} (test one other value : List ℕ) →
        inside_of kind text ≡ Choice test one other → HasValue vars depth scope test value cost → spent + 1 + cost ≤ cost_limit →
        FailsWith vars depth scope (spent + 1 + cost) (chosen value one other) fault → FailsInside vars depth scope spent kind text fault
    variable_fails : {depth : ℕ} {scope : Scope} {spent : ℕ} {kind : Bracket} {text : List ℕ} {fault : ExpandFault} (variable list body : List ℕ) →
        inside_of kind text ≡ Loop variable list body → spent + 1 ≤ cost_limit → FailsWith vars depth scope (spent + 1) variable fault →
        FailsInside vars depth scope spent kind text fault
    list_fails : {depth : ℕ} {scope : Scope} {spent cost : ℕ} {kind : Bracket} {text : List ℕ} {fault : ExpandFault} (variable list body name : List ℕ) →
        inside_of kind text ≡ Loop variable list body → HasValue vars depth scope variable name cost → spent + 1 + cost ≤ cost_limit →
        FailsWith vars depth scope (spent + 1 + cost) list fault → FailsInside vars depth scope spent kind text fault
    each_fails : {depth : ℕ} {scope : Scope} {spent cost more : ℕ} {kind : Bracket} {text : List ℕ} {fault : ExpandFault} (variable list body name items : List ℕ) →
        inside_of kind text ≡ Loop variable list body → HasValue vars depth scope variable name cost → HasValue vars depth scope list items more →
        spent + 1 + cost + more ≤ cost_limit → FailsEach vars depth scope (spent + 1 + cost + more) name body (words items) fault →
        FailsInside vars depth scope spent kind text fault

  -- what a name stands for fails: a name that isn't supported, a variable that is being expanded, or its text
  pub data FailsNamed (vars : Environment) : ℕ → Scope → ℕ → List ℕ → ExpandFault → Type 0 where
    refused : {depth : ℕ} {scope : Scope} {spent : ℕ} {name : List ℕ} →
        meaning vars scope name ≡ Refused → FailsNamed vars depth scope spent name (Unsupported name)
    met : {depth : ℕ} {scope : Scope} {spent : ℕ} {name : List ℕ} →
        meaning vars scope name ≡ Met → FailsNamed vars depth scope spent name (SelfReference name)
    too_long : {depth : ℕ} {scope : Scope} {spent cost : ℕ} {name : List ℕ} (bytes : List ℕ) →
        HasNamed vars depth scope name bytes cost → cost_limit < spent + cost → FailsNamed vars depth scope spent name TooCostly
    later_fails : {depth : ℕ} {scope : Scope} {spent : ℕ} {name : List ℕ} {fault : ExpandFault} (text : List ℕ) →
        meaning vars scope name ≡ Later text → FailsWith vars depth (with_active scope name) spent text fault →
        FailsNamed vars depth scope spent name fault

  -- an argument fails, after so many, or its value is refused
  pub data FailsAll (vars : Environment) : ℕ → Scope → ℕ → Function → ℕ → List (List ℕ) → ExpandFault → Type 0 where
    arg_fails : {depth : ℕ} {scope : Scope} {spent count : ℕ} {function : Function} {text : List ℕ} {args : List (List ℕ)} {fault : ExpandFault} →
        FailsWith vars depth scope spent text fault → FailsAll vars depth scope spent function count (text ∷ args) fault
    arg_refused : {depth : ℕ} {scope : Scope} {spent count cost : ℕ} {function : Function} {text : List ℕ} {args : List (List ℕ)} {fault : ExpandFault} (value : List ℕ) →
        HasValue vars depth scope text value cost → spent + cost ≤ cost_limit → refusal function count value (length args) ≡ Some fault →
        FailsAll vars depth scope spent function count (text ∷ args) fault
    later_arg : {depth : ℕ} {scope : Scope} {spent count cost : ℕ} {function : Function} {text : List ℕ} {args : List (List ℕ)} {fault : ExpandFault} (value : List ℕ) →
        HasValue vars depth scope text value cost → spent + cost ≤ cost_limit → refusal function count value (length args) ≡ None →
        FailsAll vars depth scope (spent + cost) function (count + 1) args fault →
        FailsAll vars depth scope spent function count (text ∷ args) fault

  -- the text of a word fails
  pub data FailsEach (vars : Environment) : ℕ → Scope → ℕ → List ℕ → List ℕ → List (List ℕ) → ExpandFault → Type 0 where
    here : {depth : ℕ} {scope : Scope} {spent : ℕ} {name body word : List ℕ} {words : List (List ℕ)} {fault : ExpandFault} →
        FailsWith vars depth (with_local scope name word) spent body fault → FailsEach vars depth scope spent name body (word ∷ words) fault
    further : {depth : ℕ} {scope : Scope} {spent cost : ℕ} {name body word : List ℕ} {words : List (List ℕ)} {fault : ExpandFault} (bytes : List ℕ) →
        HasValue vars depth (with_local scope name word) body bytes cost → spent + cost ≤ cost_limit →
        FailsEach vars depth scope (spent + cost) name body words fault → FailsEach vars depth scope spent name body (word ∷ words) fault
