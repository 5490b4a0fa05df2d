-- A text that fails is refused with its fault.
use Rattle.std.proofs.Common.{◌≡◌, ◌≢◌, ℕ, zero, suc, ◌+◌, ◌≤◌, List, [], ◌∷◌, ◌++◌, length, Err, refl, ap, sym, ◌∙◌, arith, length-append}
use Rattle.mk_expand.specs.declared.bracket.Bracket.{Bracket}
use Rattle.mk_expand.specs.declared.function.Function.{Function}
use Rattle.mk_expand.specs.declared.scope.Scope.{Scope}
use Rattle.mk_expand.specs.declared.fault.ExpandFault.{ExpandFault}
use Rattle.mk_expand.specs.declared.fault.ExpandFault.TheVariants.{BadCall, Unsupported, TooCostly}
use Rattle.mk_expand.specs.Bracket.{opening, closing, IsNested}
use Rattle.mk_expand.specs.Call.{Inside, Name, Short, Choice, Loop, Strict, inside_of, refusal}
use Rattle.mk_expand.specs.Meaning.{Environment, with_local}
use Rattle.mk_expand.specs.Draft.{State, cost_limit}
use Rattle.mk_expand.specs.Value.{chosen}
use Rattle.mk_expand.specs.Pass.{piece_run, walk, meant, named, all_values, each, called, too_deep, inside_run, text_run}
use Rattle.mk_expand.specs.Failure.{FailsWith, fails, FailsPiece, costly, stray_end, stray, unclosed, short, deep, within, FailsInside, its_one, long, name_fails, named_fails, strict_fails, test_fails, branch_fails, variable_fails, list_fails, each_fails, FailsNamed, refused, met, too_long, later_fails, FailsAll, arg_fails, arg_refused, later_arg, FailsEach, here, further}
use Rattle.mk_expand.proofs.Steps.{walk_stop}
use Rattle.mk_expand.proofs.Reading.{reference_piece, open_piece, stray_piece}
use Rattle.mk_expand.proofs.Complete.{by_name_ok, choice_ok, loop_ok, all_values_ok, each_ok, from_rest, complete}
use Rattle.mk_expand.proofs.Over.{by_name_err, strict_err, branch_err, choice_err, looped_err, loop_err, list_err, all_values_err, all_values_refused, each_err, unpaid, over_piece, over_inside, over_named}

-- a call with too few arguments, at any depth
short_run : (vars : Environment) (depth : ℕ) (scope : Scope) (kind : Bracket) (text : List ℕ) (s : State) → inside_of kind text ≡ Short →
    inside_run vars depth scope kind text s ≡ Err BadCall
short_run vars zero scope kind text s e = ap (λ i. Err (too_deep i)) e
short_run vars (suc depth) scope kind text s e = ap (λ i. called vars (text_run vars depth) scope i text s) e

deep_fault : (i : Inside) → i ≢ Short → too_deep i ≡ TooCostly
deep_fault Name n = refl
deep_fault Short n = absurd (n refl)
deep_fault (Choice test one other) n = refl
deep_fault (Loop var list body) n = refl
deep_fault (Strict function args) n = refl

-- a reference whose inside fails
inside_stop : (vars : Environment) (depth : ℕ) (scope : Scope) (kind : Bracket) (text rest : List ℕ) (s : State) (f : ExpandFault) → IsNested kind 0 text →
    inside_run vars depth scope kind text s ≡ Err f → walk (inside_run vars depth scope) 0 (36 ∷ opening kind ∷ text ++ closing kind ∷ rest) s ≡ Err f
inside_stop vars depth scope kind text rest s f n e =
    walk_stop (inside_run vars depth scope) 36 (opening kind ∷ text ++ closing kind ∷ rest) s f
    (ap (λ p. piece_run (inside_run vars depth scope) p s) (reference_piece kind text rest n) ∙ e)

one_longer : (known : List (List ℕ)) (value : List ℕ) (count : ℕ) → count ≡ length known → count + 1 ≡ length (known ++ value ∷ [])
one_longer known value count e = ap (λ n. n + 1) e ∙ sym (length-append known (value ∷ []))

mutual
  pub exact : {vars : Environment} {depth : ℕ} {scope : Scope} {spent : ℕ} {text : List ℕ} {fault : ExpandFault} → FailsWith vars depth scope spent text fault →
      (w : List ℕ) → text_run vars depth scope text (w, spent) ≡ Err fault
  exact {spent = spent} (fails {cost = cost} front rest bytes v low f) w = complete v w spent low rest ∙ exact_piece f low (w ++ bytes)

  exact_piece : {vars : Environment} {depth : ℕ} {scope : Scope} {spent : ℕ} {text : List ℕ} {fault : ExpandFault} → FailsPiece vars depth scope spent text fault →
      spent ≤ cost_limit → (w : List ℕ) → walk (inside_run vars depth scope) 0 text (w, spent) ≡ Err fault
  exact_piece {spent = spent} (costly piece rest bytes p high) low w = over_piece p w spent low high rest
  exact_piece {vars} {depth} {scope} {spent} stray_end low w = walk_stop (inside_run vars depth scope) 36 [] (w, spent) (Unsupported []) refl
  exact_piece {vars} {depth} {scope} {spent} (stray {b = b} {rest = rest} one two three) low w =
      walk_stop (inside_run vars depth scope) 36 (b ∷ rest) (w, spent) (Unsupported []) (ap (λ p. piece_run (inside_run vars depth scope) p (w, spent)) (stray_piece b rest one two three))
  exact_piece {vars} {depth} {scope} {spent} (unclosed {text = text} kind u) low w =
      walk_stop (inside_run vars depth scope) 36 (opening kind ∷ text) (w, spent) BadCall (ap (λ p. piece_run (inside_run vars depth scope) p (w, spent)) (open_piece kind text u))
  exact_piece {vars} {depth} {scope} {spent} (short kind text rest n e) low w = inside_stop vars depth scope kind text rest (w, spent) BadCall n (short_run vars depth scope kind text (w, spent) e)
  exact_piece {vars} {scope = scope} {spent = spent} (deep kind text rest n e) low w =
      inside_stop vars zero scope kind text rest (w, spent) TooCostly n (ap (λ f. Err f) (deep_fault (inside_of kind text) e))
  exact_piece {vars} {scope = scope} {spent = spent} (within {depth = depth} {fault = fault} kind text rest n f) low w =
      inside_stop vars (suc depth) scope kind text rest (w, spent) fault n (exact_inside f w)

  exact_inside : {vars : Environment} {depth : ℕ} {scope : Scope} {spent : ℕ} {kind : Bracket} {text : List ℕ} {fault : ExpandFault} → FailsInside vars depth scope spent kind text fault →
      (w : List ℕ) → called vars (text_run vars depth) scope (inside_of kind text) text (w, spent) ≡ Err fault
  exact_inside {vars} {depth} {scope} {spent} {kind} {text} (its_one n high) w = unpaid vars (text_run vars depth) scope (inside_of kind text) text w spent n (omega arith)
  exact_inside {spent = spent} (long bytes i high) w = over_inside i w spent high
  exact_inside {vars} {depth} {scope} {spent} {kind} {text} {fault} (name_fails e low f) w =
      ap (λ i. called vars (text_run vars depth) scope i text (w, spent)) e ∙ by_name_err vars (text_run vars depth) scope fault text w spent (omega arith) (exact f [])
  exact_inside {vars} {depth} {scope} {spent} {kind} {text} {fault} (named_fails {cost = cost} name e v low f) w =
      ap (λ i. called vars (text_run vars depth) scope i text (w, spent)) e
      ∙ by_name_ok vars (text_run vars depth) scope text w name spent (spent + 1 + cost) (Err fault) (omega arith)
      (from_rest vars depth scope text ([], spent + 1) (name, spent + 1 + cost) (complete v [] (spent + 1) low)) (exact_named f low w)
  exact_inside {vars} {depth} {scope} {spent} {kind} {text} {fault} (strict_fails function args e low f) w =
      ap (λ i. called vars (text_run vars depth) scope i text (w, spent)) e ∙ strict_err vars (text_run vars depth) scope fault function args w spent (omega arith) (exact_values f [] refl w)
  exact_inside {vars} {depth} {scope} {spent} {kind} {text} {fault} (test_fails test one other e low f) w =
      ap (λ i. called vars (text_run vars depth) scope i text (w, spent)) e ∙ choice_err vars (text_run vars depth) scope fault test one other w spent (omega arith) (exact f [])
  exact_inside {vars} {depth} {scope} {spent} {kind} {text} {fault} (branch_fails {cost = cost} test one other value e v low f) w =
      ap (λ i. called vars (text_run vars depth) scope i text (w, spent)) e
      ∙ choice_ok vars (text_run vars depth) scope test one other w value spent (spent + 1 + cost) (Err fault) (omega arith)
      (from_rest vars depth scope test ([], spent + 1) (value, spent + 1 + cost) (complete v [] (spent + 1) low))
      (branch_err vars (text_run vars depth) scope fault (chosen value one other) w (spent + 1 + cost) (exact f []))
  exact_inside {vars} {depth} {scope} {spent} {kind} {text} {fault} (variable_fails var list body e low f) w =
      ap (λ i. called vars (text_run vars depth) scope i text (w, spent)) e ∙ loop_err vars (text_run vars depth) scope fault var list body w spent (omega arith) (exact f [])
  exact_inside {vars} {depth} {scope} {spent} {kind} {text} {fault} (list_fails {cost = cost} var list body name e v low f) w =
      ap (λ i. called vars (text_run vars depth) scope i text (w, spent)) e
      ∙ list_err vars (text_run vars depth) scope fault var list body w name spent (spent + 1 + cost) (omega arith)
      (from_rest vars depth scope var ([], spent + 1) (name, spent + 1 + cost) (complete v [] (spent + 1) low)) (exact f [])
  exact_inside {vars} {depth} {scope} {spent} {kind} {text} {fault} (each_fails {cost = cost} {more = more} var list body name items e v l low f) w =
      ap (λ i. called vars (text_run vars depth) scope i text (w, spent)) e
      ∙ loop_ok vars (text_run vars depth) scope var list body w name items spent (spent + 1 + cost) (spent + 1 + cost + more) (Err fault) (omega arith)
      (from_rest vars depth scope var ([], spent + 1) (name, spent + 1 + cost) (complete v [] (spent + 1) (omega arith)))
      (from_rest vars depth scope list ([], spent + 1 + cost) (items, spent + 1 + cost + more) (complete l [] (spent + 1 + cost) low))
      (looped_err vars (text_run vars depth) scope fault name body items w (spent + 1 + cost + more) (exact_each f [] []))

  pub exact_named : {vars : Environment} {depth : ℕ} {scope : Scope} {spent : ℕ} {name : List ℕ} {fault : ExpandFault} → FailsNamed vars depth scope spent name fault →
      spent ≤ cost_limit → (w : List ℕ) → named vars (text_run vars depth) scope name (w, spent) ≡ Err fault
  exact_named {vars} {depth} {scope} {spent} {name} (refused e) low w = ap (λ m. meant vars (text_run vars depth) scope name m (w, spent)) e
  exact_named {vars} {depth} {scope} {spent} {name} (met e) low w = ap (λ m. meant vars (text_run vars depth) scope name m (w, spent)) e
  exact_named {spent = spent} (too_long bytes n high) low w = over_named n w spent low high
  exact_named {vars} {depth} {scope} {spent} {name} (later_fails text e f) low w = ap (λ m. meant vars (text_run vars depth) scope name m (w, spent)) e ∙ exact f w

  exact_values : {vars : Environment} {depth : ℕ} {scope : Scope} {spent count : ℕ} {function : Function} {args : List (List ℕ)} {fault : ExpandFault} → FailsAll vars depth scope spent function count args fault →
      (known : List (List ℕ)) → count ≡ length known → (w : List ℕ) → all_values vars (text_run vars depth) scope function known args (w, spent) ≡ Err fault
  exact_values {vars} {depth} {scope} {spent} {function = function} {fault = fault} (arg_fails {text = text} {args = args} f) known c w =
      all_values_err vars (text_run vars depth) scope fault function known args text w spent (exact f [])
  exact_values {vars} {depth} {scope} {spent} {function = function} {fault = fault} (arg_refused {cost = cost} {text = text} {args = args} value v low r) known c w =
      all_values_refused vars (text_run vars depth) scope fault function known args text w value spent (spent + cost)
      (from_rest vars depth scope text ([], spent) (value, spent + cost) (complete v [] spent low)) (ap (λ n. refusal function n value (length args)) (sym c) ∙ r)
  exact_values {vars} {depth} {scope} {spent} {function = function} {fault = fault} (later_arg {count = count} {cost = cost} {text = text} {args = args} value v low r f) known c w =
      all_values_ok vars (text_run vars depth) scope function known args text w value spent (spent + cost) (Err fault)
      (from_rest vars depth scope text ([], spent) (value, spent + cost) (complete v [] spent low)) (ap (λ n. refusal function n value (length args)) (sym c) ∙ r)
      (exact_values f (known ++ value ∷ []) (one_longer known value count c) w)

  exact_each : {vars : Environment} {depth : ℕ} {scope : Scope} {spent : ℕ} {name body : List ℕ} {words : List (List ℕ)} {fault : ExpandFault} → FailsEach vars depth scope spent name body words fault →
      (gap w : List ℕ) → each vars (text_run vars depth) scope name body gap words (w, spent) ≡ Err fault
  exact_each {vars} {depth} {scope} {spent} {name} {body} {fault = fault} (here {word = word} {words = others} f) gap w =
      each_err vars (text_run vars depth) scope fault name body gap word w others spent (exact f (w ++ gap))
  exact_each {vars} {depth} {scope} {spent} {name} {body} {fault = fault} (further {cost = cost} {word = word} {words = others} bytes v low f) gap w =
      each_ok vars (text_run vars depth) scope name body gap word w ((w ++ gap) ++ bytes) others spent (spent + cost) (Err fault)
      (from_rest vars depth (with_local scope name word) body (w ++ gap, spent) ((w ++ gap) ++ bytes, spent + cost) (complete v (w ++ gap) spent low))
      (exact_each f (32 ∷ []) ((w ++ gap) ++ bytes))
