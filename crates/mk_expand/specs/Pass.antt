-- The expansion as one pass from the left, with the text and the cost so far. It says the same as the values and failures,
-- in the form in which the code takes its steps.
use Rattle.std.specs.Prelude.{ℕ, zero, suc, List, [], ◌∷◌, ◌++◌, length, Option, None, Some, Result, Ok, Err}
use Rattle.mk_expand.specs.declared.bracket.Bracket.{Bracket}
use Rattle.mk_expand.specs.declared.function.Function.{Function}
use Rattle.mk_expand.specs.declared.scope.Scope.{Scope}
use Rattle.mk_expand.specs.declared.fault.ExpandFault.{ExpandFault}
use Rattle.mk_expand.specs.declared.fault.ExpandFault.TheVariants.{SelfReference, BadCall, Unsupported, TooCostly}
use Rattle.mk_expand.specs.Words.{words}
use Rattle.mk_expand.specs.Lists.{applied}
use Rattle.mk_expand.specs.Call.{Inside, Name, Short, Choice, Loop, Strict, inside_of, refusal}
use Rattle.mk_expand.specs.Piece.{Piece, Byte, Stray, Unclosed, Reference, piece_of, piece_len}
use Rattle.mk_expand.specs.Meaning.{Environment, Meaning, Refused, Fixed, Met, Later, meaning, with_active, with_local}
use Rattle.mk_expand.specs.Draft.{State, ◌>>=◌, pay, put, put_apart}
use Rattle.mk_expand.specs.Value.{chosen}

-- a state, or the fault that was met
abbrev pub Run : Type 0
Run = Result State ExpandFault

-- how texts are expanded in their scopes
abbrev pub Expansion : Type 0
Expansion = Scope → List ℕ → State → Run

-- how insides of references are expanded
abbrev pub Insides : Type 0
Insides = Bracket → List ℕ → State → Run

abbrev pub piece_run : Insides → Piece → State → Run
piece_run insides (Byte b) s = put (b ∷ []) s
piece_run insides Stray s = Err (Unsupported [])
piece_run insides Unclosed s = Err BadCall
piece_run insides (Reference kind text) s = insides kind text s

-- a text piece by piece; so many bytes belong to a piece that is done
abbrev pub walk : Insides → ℕ → List ℕ → State → Run
walk insides skip [] s = Ok s
walk insides (suc skip) (b ∷ text) s = walk insides skip text s
walk insides zero (b ∷ text) s = piece_run insides (piece_of b text) s >>= λ t. walk insides (piece_len b text) text t

module _ (vars : Environment) (expand : Expansion) (scope : Scope) where
  -- a text that is expanded apart, at the cost so far
  abbrev pub apart : List ℕ → State → Result (List ℕ × State) ExpandFault
  apart text s = expand scope text ([], s.1) >>= λ t. Ok (t.0, (s.0, t.1))

  abbrev pub meant : List ℕ → Meaning → State → Run
  meant name Refused s = Err (Unsupported name)
  meant name (Fixed bytes) s = put bytes s
  meant name Met s = Err (SelfReference name)
  meant name (Later text) s = expand (with_active scope name) text s

  abbrev pub named : List ℕ → State → Run
  named name s = meant name (meaning vars scope name) s

  abbrev pub by_name : List ℕ → State → Run
  by_name text s = pay s >>= λ t. apart text t >>= λ n. named n.0 n.1

  -- one more value, unless it is refused
  abbrev pub unless : Option ExpandFault → List (List ℕ) → State → Result (List (List ℕ) × State) ExpandFault
  unless None values s = Ok (values, s)
  unless (Some fault) values s = Err fault

  abbrev pub one_value : Function → ℕ → List (List ℕ) → List ℕ → State → Result (List (List ℕ) × State) ExpandFault
  one_value function behind known text s =
      apart text s >>= λ v. unless (refusal function (length known) v.0 behind) (known ++ v.0 ∷ []) v.1

  abbrev pub all_values : Function → List (List ℕ) → List (List ℕ) → State → Result (List (List ℕ) × State) ExpandFault
  all_values function known [] s = Ok (known, s)
  all_values function known (text ∷ args) s =
      one_value function (length args) known text s >>= λ v. all_values function v.0 args v.1

  abbrev pub strict_call : Function → List (List ℕ) → State → Run
  strict_call function args s = pay s >>= λ t. all_values function [] args t >>= λ v. put (applied function v.0) v.1

  abbrev pub branch : List ℕ → State → Run
  branch text s = expand scope text ([], s.1) >>= put_apart s

  abbrev pub choice_call : List ℕ → List ℕ → List ℕ → State → Run
  choice_call test one other s = pay s >>= λ t. apart test t >>= λ v. branch (chosen v.0 one other) v.1

  -- the text of each word, the first after a gap
  abbrev pub each : List ℕ → List ℕ → List ℕ → List (List ℕ) → State → Run
  each name body gap [] s = Ok s
  each name body gap (word ∷ words) s =
      expand (with_local scope name word) body (s.0 ++ gap, s.1) >>= each name body (32 ∷ []) words

  abbrev pub looped : List ℕ → List ℕ → List ℕ → State → Run
  looped name body items s = each name body [] (words items) ([], s.1) >>= put_apart s

  abbrev pub loop_call : List ℕ → List ℕ → List ℕ → State → Run
  loop_call variable list body s = pay s >>= λ t. apart variable t >>= λ n. apart list n.1 >>= λ i. looped n.0 body i.0 i.1

  -- the inside of a reference
  abbrev pub called : Inside → List ℕ → State → Run
  called Name text s = by_name text s
  called Short text s = Err BadCall
  called (Choice test one other) text s = choice_call test one other s
  called (Loop variable list body) text s = loop_call variable list body s
  called (Strict function args) text s = strict_call function args s

-- the fault of a reference that is too deep: a call with too few arguments is at fault before its depth is
abbrev pub too_deep : Inside → ExpandFault
too_deep Short = BadCall
too_deep inside = TooCostly

-- the inside of a reference, with so many more allowed in one another
abbrev pub inside_run : Environment → ℕ → Scope → Bracket → List ℕ → State → Run
inside_run vars zero scope kind text s = Err (too_deep (inside_of kind text))
inside_run vars (suc depth) scope kind text s =
    called vars (λ scope text t. walk (inside_run vars depth scope) 0 text t) scope (inside_of kind text) text s

-- a text in a scope
abbrev pub text_run : Environment → ℕ → Scope → List ℕ → State → Run
text_run vars depth scope text s = walk (inside_run vars depth scope) 0 text s
