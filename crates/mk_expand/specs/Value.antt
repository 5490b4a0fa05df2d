-- The value of a text and what it costs.
use Rattle.std.specs.Prelude.{◌≡◌, ◌≢◌, ℕ, suc, ◌+◌, List, [], ◌∷◌, ◌++◌, length, None}
use Rattle.mk_expand.specs.declared.bracket.Bracket.{Bracket}
use Rattle.mk_expand.specs.declared.function.Function.{Function}
use Rattle.mk_expand.specs.declared.scope.Scope.{Scope}
use Rattle.mk_expand.specs.Bracket.{opening, closing, IsNested}
use Rattle.mk_expand.specs.Words.{words, row}
use Rattle.mk_expand.specs.Lists.{applied}
use Rattle.mk_expand.specs.Call.{Name, Choice, Loop, Strict, inside_of, refusal}
use Rattle.mk_expand.specs.Meaning.{Environment, Fixed, Later, meaning, with_active, with_local}

-- the most references and calls in one another
abbrev pub depth_limit : ℕ
depth_limit = 200

-- the branch of an `if`, by the value of its condition
abbrev pub chosen : List ℕ → List ℕ → List ℕ → List ℕ
chosen [] one other = other
chosen (b ∷ value) one other = one

mutual
  -- with this many references still allowed in one another, in a scope, a text has a value at a cost
  pub data HasValue (vars : Environment) : ℕ → Scope → List ℕ → List ℕ → ℕ → Type 0 where
    nothing : {depth : ℕ} {scope : Scope} → HasValue vars depth scope [] [] 0
    first : {depth : ℕ} {scope : Scope} {piece text bytes out : List ℕ} {cost more : ℕ} →
        HasPiece vars depth scope piece bytes cost → HasValue vars depth scope text out more →
        HasValue vars depth scope (piece ++ text) (bytes ++ out) (cost + more)

  -- a piece of a text: a byte, `$$`, or a reference
  pub data HasPiece (vars : Environment) : ℕ → Scope → List ℕ → List ℕ → ℕ → Type 0 where
    byte : {depth : ℕ} {scope : Scope} {b : ℕ} → b ≢ 36 → HasPiece vars depth scope (b ∷ []) (b ∷ []) 1
    dollar : {depth : ℕ} {scope : Scope} → HasPiece vars depth scope (36 ∷ 36 ∷ []) (36 ∷ []) 1
    reference : {depth : ℕ} {scope : Scope} (kind : Bracket) (text : List ℕ) {bytes : List ℕ} {cost : ℕ} →
        IsNested kind 0 text → HasInside vars depth scope kind text bytes cost →
        HasPiece vars (suc depth) scope (36 ∷ opening kind ∷ text ++ closing kind ∷ []) bytes cost

  -- the inside of a reference: its 1, what it expands, and for a call the length of its result
  pub data HasInside (vars : Environment) : ℕ → Scope → Bracket → List ℕ → List ℕ → ℕ → Type 0 where
    variable : {depth : ℕ} {scope : Scope} {kind : Bracket} {text name bytes : List ℕ} {cost more : ℕ} →
        inside_of kind text ≡ Name → HasValue vars depth scope text name cost → HasNamed vars depth scope name bytes more →
        HasInside vars depth scope kind text bytes (1 + cost + more)
    strict : {depth : ℕ} {scope : Scope} {kind : Bracket} {text : List ℕ} {cost : ℕ} (function : Function) (args values : List (List ℕ)) →
        inside_of kind text ≡ Strict function args → HasAll vars depth scope function [] args values cost →
        HasInside vars depth scope kind text (applied function values) (1 + cost + length (applied function values))
    choice : {depth : ℕ} {scope : Scope} {kind : Bracket} {text bytes : List ℕ} {cost more : ℕ} (test one other value : List ℕ) →
        inside_of kind text ≡ Choice test one other → HasValue vars depth scope test value cost →
        HasValue vars depth scope (chosen value one other) bytes more →
        HasInside vars depth scope kind text bytes (1 + cost + more + length bytes)
    loop : {depth : ℕ} {scope : Scope} {kind : Bracket} {text : List ℕ} {cost more last : ℕ} (variable list body name items : List ℕ) (parts : List (List ℕ)) →
        inside_of kind text ≡ Loop variable list body → HasValue vars depth scope variable name cost →
        HasValue vars depth scope list items more → HasEach vars depth scope name body (words items) parts last →
        HasInside vars depth scope kind text (row parts) (1 + cost + more + last + length (row parts))

  -- what a name stands for: a text, or one that is expanded
  pub data HasNamed (vars : Environment) : ℕ → Scope → List ℕ → List ℕ → ℕ → Type 0 where
    fixed : {depth : ℕ} {scope : Scope} {name bytes : List ℕ} →
        meaning vars scope name ≡ Fixed bytes → HasNamed vars depth scope name bytes (length bytes)
    later : {depth : ℕ} {scope : Scope} {name bytes : List ℕ} {cost : ℕ} (text : List ℕ) →
        meaning vars scope name ≡ Later text → HasValue vars depth (with_active scope name) text bytes cost →
        HasNamed vars depth scope name bytes cost

  -- the arguments of a call after those whose values are known, from left to right
  pub data HasAll (vars : Environment) : ℕ → Scope → Function → List (List ℕ) → List (List ℕ) → List (List ℕ) → ℕ → Type 0 where
    none_left : {depth : ℕ} {scope : Scope} {function : Function} {known : List (List ℕ)} → HasAll vars depth scope function known [] known 0
    one_more : {depth : ℕ} {scope : Scope} {function : Function} {known args values : List (List ℕ)} {text value : List ℕ} {cost more : ℕ} →
        HasValue vars depth scope text value cost → refusal function (length known) value (length args) ≡ None →
        HasAll vars depth scope function (known ++ value ∷ []) args values more →
        HasAll vars depth scope function known (text ∷ args) values (cost + more)

  -- a text for each word, with a name that stands for the word
  pub data HasEach (vars : Environment) : ℕ → Scope → List ℕ → List ℕ → List (List ℕ) → List (List ℕ) → ℕ → Type 0 where
    no_word : {depth : ℕ} {scope : Scope} {name body : List ℕ} → HasEach vars depth scope name body [] [] 0
    one_word : {depth : ℕ} {scope : Scope} {name body word bytes : List ℕ} {words parts : List (List ℕ)} {cost more : ℕ} →
        HasValue vars depth (with_local scope name word) body bytes cost → HasEach vars depth scope name body words parts more →
        HasEach vars depth scope name body (word ∷ words) (bytes ∷ parts) (cost + more)
