-- A text that has a value within the limit is expanded to it.
use Rattle.std.proofs.Common.{◌≡◌, ℕ, suc, ◌+◌, ◌<◌, ◌≤◌, List, [], ◌∷◌, ◌++◌, length, drop, Result, Ok, None, refl, ap, sym, ◌∙◌, arith, append_assoc, append-nil}
use Rattle.mk_expand.specs.declared.bracket.Bracket.{Bracket}
use Rattle.mk_expand.specs.declared.function.Function.{Function}
use Rattle.mk_expand.specs.declared.scope.Scope.{Scope}
use Rattle.mk_expand.specs.declared.fault.ExpandFault.{ExpandFault}
use Rattle.mk_expand.specs.Bracket.{opening, closing, IsNested}
use Rattle.mk_expand.specs.Words.{words, row, row_behind}
use Rattle.mk_expand.specs.Lists.{applied}
use Rattle.mk_expand.specs.Call.{inside_of, refusal}
use Rattle.mk_expand.specs.Meaning.{Environment, with_active, with_local}
use Rattle.mk_expand.specs.Draft.{State, ◌>>=◌, put, put_apart, cost_limit}
use Rattle.mk_expand.specs.Value.{HasValue, nothing, first, HasPiece, byte, dollar, reference, HasInside, variable, strict, choice, loop, HasNamed, fixed, later, HasAll, none_left, one_more, HasEach, no_word, one_word, chosen}
use Rattle.mk_expand.specs.Pass.{Run, Expansion, piece_run, walk, apart, meant, named, by_name, unless, one_value, all_values, strict_call, branch, choice_call, each, looped, loop_call, called, inside_run, text_run}
use Rattle.mk_expand.proofs.Steps.{bind_ok, pay_ok, put_ok, walk_on}
use Rattle.mk_expand.proofs.Reading.{reference_piece, reference_rest, byte_piece}

-- the same state at an equal cost
same_cost : (w : List ℕ) (m n : ℕ) → m ≡ n → ◌≡◌ {A = Run} (Ok (w, m)) (Ok (w, n))
same_cost w m n e = ap (λ n. Ok (w, n)) e

module _ (vars : Environment) (expand : Expansion) (scope : Scope) where
  pub apart_ok : (text w value : List ℕ) (k m : ℕ) → expand scope text ([], k) ≡ Ok (value, m) → apart vars expand scope text (w, k) ≡ Ok (value, (w, m))
  apart_ok text w value k m e = bind_ok (λ t. Ok (t.0, (w, t.1))) e

  pub by_name_ok : (text w name : List ℕ) (k m : ℕ) (r : Run) → k < cost_limit → expand scope text ([], k + 1) ≡ Ok (name, m) →
      named vars expand scope name (w, m) ≡ r → by_name vars expand scope text (w, k) ≡ r
  by_name_ok text w name k m r low e n =
      bind_ok (λ t. apart vars expand scope text t >>= λ n. named vars expand scope n.0 n.1) (pay_ok w k low)
      ∙ (bind_ok (λ n. named vars expand scope n.0 n.1) (apart_ok text w name (k + 1) m e) ∙ n)

  pub strict_ok : (function : Function) (args values : List (List ℕ)) (w : List ℕ) (k m : ℕ) (r : Run) → k < cost_limit →
      all_values vars expand scope function [] args (w, k + 1) ≡ Ok (values, (w, m)) → put (applied function values) (w, m) ≡ r →
      strict_call vars expand scope function args (w, k) ≡ r
  strict_ok function args values w k m r low e p =
      bind_ok (λ t. all_values vars expand scope function [] args t >>= λ v. put (applied function v.0) v.1) (pay_ok w k low)
      ∙ (bind_ok (λ v. put (applied function v.0) v.1) e ∙ p)

  pub branch_ok : (text w bytes : List ℕ) (k m : ℕ) (r : Run) → expand scope text ([], k) ≡ Ok (bytes, m) → put bytes (w, m) ≡ r →
      branch vars expand scope text (w, k) ≡ r
  branch_ok text w bytes k m r e p = bind_ok (put_apart (w, k)) e ∙ p

  pub choice_ok : (test one other w value : List ℕ) (k m : ℕ) (r : Run) → k < cost_limit → expand scope test ([], k + 1) ≡ Ok (value, m) →
      branch vars expand scope (chosen value one other) (w, m) ≡ r → choice_call vars expand scope test one other (w, k) ≡ r
  choice_ok test one other w value k m r low e b =
      bind_ok (λ t. apart vars expand scope test t >>= λ v. branch vars expand scope (chosen v.0 one other) v.1) (pay_ok w k low)
      ∙ (bind_ok (λ v. branch vars expand scope (chosen v.0 one other) v.1) (apart_ok test w value (k + 1) m e) ∙ b)

  pub looped_ok : (name body items w bytes : List ℕ) (k m : ℕ) (r : Run) → each vars expand scope name body [] (words items) ([], k) ≡ Ok (bytes, m) →
      put bytes (w, m) ≡ r → looped vars expand scope name body items (w, k) ≡ r
  looped_ok name body items w bytes k m r e p = bind_ok (put_apart (w, k)) e ∙ p

  pub loop_ok : (named_text list body w name items : List ℕ) (k m n : ℕ) (r : Run) → k < cost_limit → expand scope named_text ([], k + 1) ≡ Ok (name, m) →
      expand scope list ([], m) ≡ Ok (items, n) → looped vars expand scope name body items (w, n) ≡ r → loop_call vars expand scope named_text list body (w, k) ≡ r
  loop_ok named_text list body w name items k m n r low e f l =
      bind_ok (λ t. apart vars expand scope named_text t >>= λ n. apart vars expand scope list n.1 >>= λ i. looped vars expand scope n.0 body i.0 i.1) (pay_ok w k low)
      ∙ (bind_ok (λ n. apart vars expand scope list n.1 >>= λ i. looped vars expand scope n.0 body i.0 i.1) (apart_ok named_text w name (k + 1) m e)
      ∙ (bind_ok (λ i. looped vars expand scope name body i.0 i.1) (apart_ok list w items m n f) ∙ l))

  pub one_value_ok : (function : Function) (behind : ℕ) (known : List (List ℕ)) (text w value : List ℕ) (k m : ℕ) →
      expand scope text ([], k) ≡ Ok (value, m) → refusal function (length known) value behind ≡ None →
      one_value vars expand scope function behind known text (w, k) ≡ Ok (known ++ value ∷ [], (w, m))
  one_value_ok function behind known text w value k m e n =
      bind_ok (λ v. unless vars expand scope (refusal function (length known) v.0 behind) (known ++ v.0 ∷ []) v.1) (apart_ok text w value k m e)
      ∙ ap (λ o. unless vars expand scope o (known ++ value ∷ []) (w, m)) n

  pub all_values_ok : (function : Function) (known args : List (List ℕ)) (text w value : List ℕ) (k m : ℕ) (r : Result (List (List ℕ) × State) ExpandFault) →
      expand scope text ([], k) ≡ Ok (value, m) → refusal function (length known) value (length args) ≡ None →
      all_values vars expand scope function (known ++ value ∷ []) args (w, m) ≡ r → all_values vars expand scope function known (text ∷ args) (w, k) ≡ r
  all_values_ok function known args text w value k m r e n a =
      bind_ok (λ v. all_values vars expand scope function v.0 args v.1) (one_value_ok function (length args) known text w value k m e n) ∙ a

  pub each_ok : (name body gap word w bytes : List ℕ) (words : List (List ℕ)) (k m : ℕ) (r : Run) →
      expand (with_local scope name word) body (w ++ gap, k) ≡ Ok (bytes, m) → each vars expand scope name body (32 ∷ []) words (bytes, m) ≡ r →
      each vars expand scope name body gap (word ∷ words) (w, k) ≡ r
  each_ok name body gap word w bytes words k m r e a = bind_ok (each vars expand scope name body (32 ∷ []) words) e ∙ a

-- a reference that is read and expanded, before a rest
pub reference_on : (vars : Environment) (depth : ℕ) (scope : Scope) (kind : Bracket) (text rest : List ℕ) (s : State) (r : Run) → IsNested kind 0 text →
    ((t : State) → inside_run vars depth scope kind text s ≡ Ok t → walk (inside_run vars depth scope) 0 rest t ≡ r) →
    (t : State) → inside_run vars depth scope kind text s ≡ Ok t → walk (inside_run vars depth scope) 0 (36 ∷ opening kind ∷ text ++ closing kind ∷ rest) s ≡ r
reference_on vars depth scope kind text rest s r n next t e =
    walk_on (inside_run vars depth scope) 36 (opening kind ∷ text ++ closing kind ∷ rest) rest s t (reference_rest kind text rest n)
    (ap (λ p. piece_run (inside_run vars depth scope) p s) (reference_piece kind text rest n) ∙ e)
    ∙ next t e

-- a whole text, with nothing after it
pub from_rest : (vars : Environment) (depth : ℕ) (scope : Scope) (text : List ℕ) (s t : State) →
    ((rest : List ℕ) → walk (inside_run vars depth scope) 0 (text ++ rest) s ≡ walk (inside_run vars depth scope) 0 rest t) → text_run vars depth scope text s ≡ Ok t
from_rest vars depth scope text s t e = ap (λ t. walk (inside_run vars depth scope) 0 t s) (sym (append-nil text)) ∙ e []

-- a piece, and the text after it
piece_end : (kind : Bracket) (text rest : List ℕ) → ◌≡◌ {A = List ℕ} ((36 ∷ opening kind ∷ text ++ closing kind ∷ []) ++ rest) (36 ∷ opening kind ∷ text ++ closing kind ∷ rest)
piece_end kind text rest = ap (λ t. 36 ∷ opening kind ∷ t) (append_assoc text (closing kind ∷ []) rest)

mutual
  pub complete : {vars : Environment} {depth : ℕ} {scope : Scope} {text out : List ℕ} {cost : ℕ} → HasValue vars depth scope text out cost →
      (w : List ℕ) (k : ℕ) → k + cost ≤ cost_limit → (rest : List ℕ) →
      walk (inside_run vars depth scope) 0 (text ++ rest) (w, k) ≡ walk (inside_run vars depth scope) 0 rest (w ++ out, k + cost)
  complete {vars} {depth} {scope} nothing w k low rest =
      ap (walk (inside_run vars depth scope) 0 rest) (let a : w ≡ w ++ [] = sym (append-nil w) in let b : k ≡ k + 0 = omega arith in ap (λ w. (w, k)) a ∙ ap (λ k. (w ++ [], k)) b)
  complete {vars} {depth} {scope} (first {piece = piece} {text = text} {bytes = bytes} {out = out} {cost = cost} {more = more} p v) w k low rest =
      ap (λ t. walk (inside_run vars depth scope) 0 t (w, k)) (append_assoc piece text rest)
      ∙ (complete_piece p w k (omega arith) (text ++ rest)
      ∙ (complete v (w ++ bytes) (k + cost) (omega arith) rest
      ∙ ap (walk (inside_run vars depth scope) 0 rest)
      (ap (λ w. (w, k + cost + more)) (append_assoc w bytes out) ∙ ap (λ k. (w ++ (bytes ++ out), k)) (let e : k + cost + more ≡ k + (cost + more) = omega arith in e))))

  pub complete_piece : {vars : Environment} {depth : ℕ} {scope : Scope} {piece bytes : List ℕ} {cost : ℕ} → HasPiece vars depth scope piece bytes cost →
      (w : List ℕ) (k : ℕ) → k + cost ≤ cost_limit → (rest : List ℕ) →
      walk (inside_run vars depth scope) 0 (piece ++ rest) (w, k) ≡ walk (inside_run vars depth scope) 0 rest (w ++ bytes, k + cost)
  complete_piece {vars} {depth} {scope} (byte {b = b} n) w k low rest =
      let r = byte_piece b rest n in
      walk_on (inside_run vars depth scope) b rest rest (w, k) (w ++ b ∷ [], k + 1) (ap (λ n. drop n rest) r.1) (ap (λ p. piece_run (inside_run vars depth scope) p (w, k)) r.0 ∙ put_ok (b ∷ []) w k low)
  complete_piece {vars} {depth} {scope} dollar w k low rest =
      walk_on (inside_run vars depth scope) 36 (36 ∷ rest) rest (w, k) (w ++ 36 ∷ [], k + 1) refl (put_ok (36 ∷ []) w k low)
  complete_piece {vars} (reference {depth = depth} {scope = scope} kind text {bytes = bytes} {cost = cost} n i) w k low rest =
      ap (λ t. walk (inside_run vars (suc depth) scope) 0 t (w, k)) (piece_end kind text rest)
      ∙ walk_on (inside_run vars (suc depth) scope) 36 (opening kind ∷ text ++ closing kind ∷ rest) rest (w, k) (w ++ bytes, k + cost) (reference_rest kind text rest n)
      (ap (λ p. piece_run (inside_run vars (suc depth) scope) p (w, k)) (reference_piece kind text rest n) ∙ complete_inside i w k low)

  pub complete_inside : {vars : Environment} {depth : ℕ} {scope : Scope} {kind : Bracket} {text bytes : List ℕ} {cost : ℕ} → HasInside vars depth scope kind text bytes cost →
      (w : List ℕ) (k : ℕ) → k + cost ≤ cost_limit → called vars (text_run vars depth) scope (inside_of kind text) text (w, k) ≡ Ok (w ++ bytes, k + cost)
  complete_inside {vars} {depth} {scope} (variable {text = text} {name = name} {bytes = bytes} {cost = cost} {more = more} e v n) w k low =
      ap (λ i. called vars (text_run vars depth) scope i text (w, k)) e
      ∙ by_name_ok vars (text_run vars depth) scope text w name k (k + 1 + cost) (Ok (w ++ bytes, k + (1 + cost + more))) (omega arith) (from_rest vars depth scope text ([], k + 1) (name, k + 1 + cost) (complete v [] (k + 1) (omega arith)))
      (complete_named n w (k + 1 + cost) (omega arith) ∙ same_cost (w ++ bytes) (k + 1 + cost + more) (k + (1 + cost + more)) (omega arith))
  complete_inside {vars} {depth} {scope} (strict {text = text} {cost = cost} function args values e a) w k low =
      ap (λ i. called vars (text_run vars depth) scope i text (w, k)) e
      ∙ strict_ok vars (text_run vars depth) scope function args values w k (k + 1 + cost) (Ok (w ++ applied function values, k + (1 + cost + length (applied function values)))) (omega arith)
      (complete_values a w (k + 1) (omega arith))
      (put_ok (applied function values) w (k + 1 + cost) (omega arith) ∙ same_cost (w ++ applied function values) (k + 1 + cost + length (applied function values)) (k + (1 + cost + length (applied function values))) (omega arith))
  complete_inside {vars} {depth} {scope} (choice {text = text} {bytes = bytes} {cost = cost} {more = more} test one other value e t b) w k low =
      ap (λ i. called vars (text_run vars depth) scope i text (w, k)) e
      ∙ choice_ok vars (text_run vars depth) scope test one other w value k (k + 1 + cost) (Ok (w ++ bytes, k + (1 + cost + more + length bytes))) (omega arith) (from_rest vars depth scope test ([], k + 1) (value, k + 1 + cost) (complete t [] (k + 1) (omega arith)))
      (branch_ok vars (text_run vars depth) scope (chosen value one other) w bytes (k + 1 + cost) (k + 1 + cost + more) (Ok (w ++ bytes, k + (1 + cost + more + length bytes))) (from_rest vars depth scope (chosen value one other) ([], k + 1 + cost) (bytes, k + 1 + cost + more) (complete b [] (k + 1 + cost) (omega arith)))
      (put_ok bytes w (k + 1 + cost + more) (omega arith) ∙ same_cost (w ++ bytes) (k + 1 + cost + more + length bytes) (k + (1 + cost + more + length bytes)) (omega arith)))
  complete_inside {vars} {depth} {scope} (loop {text = text} {cost = cost} {more = more} {last = last} var list body name items parts e v l p) w k low =
      ap (λ i. called vars (text_run vars depth) scope i text (w, k)) e
      ∙ loop_ok vars (text_run vars depth) scope var list body w name items k (k + 1 + cost) (k + 1 + cost + more) (Ok (w ++ row parts, k + (1 + cost + more + last + length (row parts)))) (omega arith)
      (from_rest vars depth scope var ([], k + 1) (name, k + 1 + cost) (complete v [] (k + 1) (omega arith))) (from_rest vars depth scope list ([], k + 1 + cost) (items, k + 1 + cost + more) (complete l [] (k + 1 + cost) (omega arith)))
      (looped_ok vars (text_run vars depth) scope name body items w (row parts) (k + 1 + cost + more) (k + 1 + cost + more + last) (Ok (w ++ row parts, k + (1 + cost + more + last + length (row parts)))) (complete_each p [] [] (k + 1 + cost + more) (omega arith))
      (put_ok (row parts) w (k + 1 + cost + more + last) (omega arith) ∙ same_cost (w ++ row parts) (k + 1 + cost + more + last + length (row parts)) (k + (1 + cost + more + last + length (row parts))) (omega arith)))

  pub complete_named : {vars : Environment} {depth : ℕ} {scope : Scope} {name bytes : List ℕ} {cost : ℕ} → HasNamed vars depth scope name bytes cost →
      (w : List ℕ) (k : ℕ) → k + cost ≤ cost_limit → named vars (text_run vars depth) scope name (w, k) ≡ Ok (w ++ bytes, k + cost)
  complete_named {vars} {depth} {scope} (fixed {name = name} {bytes = bytes} e) w k low =
      ap (λ m. meant vars (text_run vars depth) scope name m (w, k)) e ∙ put_ok bytes w k low
  complete_named {vars} {depth} {scope} (later {name = name} {bytes = bytes} {cost = cost} text e v) w k low =
      ap (λ m. meant vars (text_run vars depth) scope name m (w, k)) e ∙ from_rest vars depth (with_active scope name) text (w, k) (w ++ bytes, k + cost) (complete v w k low)

  pub complete_values : {vars : Environment} {depth : ℕ} {scope : Scope} {function : Function} {known args values : List (List ℕ)} {cost : ℕ} → HasAll vars depth scope function known args values cost →
      (w : List ℕ) (k : ℕ) → k + cost ≤ cost_limit → all_values vars (text_run vars depth) scope function known args (w, k) ≡ Ok (values, (w, k + cost))
  complete_values (none_left {known = known}) w k low = ap (λ k. Ok (known, (w, k))) (let e : k ≡ k + 0 = omega arith in e)
  complete_values {vars} {depth} {scope} {function} (one_more {known = known} {args = args} {values = values} {text = text} {value = value} {cost = cost} {more = more} v n a) w k low =
      all_values_ok vars (text_run vars depth) scope function known args text w value k (k + cost) (Ok (values, (w, k + (cost + more)))) (from_rest vars depth scope text ([], k) (value, k + cost) (complete v [] k (omega arith))) n
      (complete_values a w (k + cost) (omega arith) ∙ ap (λ k. Ok (values, (w, k))) (let e : k + cost + more ≡ k + (cost + more) = omega arith in e))

  pub complete_each : {vars : Environment} {depth : ℕ} {scope : Scope} {name body : List ℕ} {words parts : List (List ℕ)} {cost : ℕ} → HasEach vars depth scope name body words parts cost →
      (gap w : List ℕ) (k : ℕ) → k + cost ≤ cost_limit → each vars (text_run vars depth) scope name body gap words (w, k) ≡ Ok (w ++ row_behind gap parts, k + cost)
  complete_each no_word gap w k low = ap (λ w. Ok (w, k)) (sym (append-nil w)) ∙ same_cost (w ++ []) k (k + 0) (omega arith)
  complete_each {vars} {depth} {scope} {name} {body} (one_word {word = word} {bytes = bytes} {words = others} {parts = parts} {cost = cost} {more = more} v p) gap w k low =
      each_ok vars (text_run vars depth) scope name body gap word w ((w ++ gap) ++ bytes) others k (k + cost) (Ok (w ++ (gap ++ (bytes ++ row_behind (32 ∷ []) parts)), k + (cost + more)))
      (from_rest vars depth (with_local scope name word) body (w ++ gap, k) ((w ++ gap) ++ bytes, k + cost) (complete v (w ++ gap) k (omega arith)))
      (complete_each p (32 ∷ []) ((w ++ gap) ++ bytes) (k + cost) (omega arith)
      ∙ (ap (λ w. Ok (w, k + cost + more)) (append_assoc (w ++ gap) bytes (row_behind (32 ∷ []) parts) ∙ append_assoc w gap (bytes ++ row_behind (32 ∷ []) parts))
      ∙ same_cost (w ++ (gap ++ (bytes ++ row_behind (32 ∷ []) parts))) (k + cost + more) (k + (cost + more)) (omega arith)))

-- a whole text, from any state
pub complete_from : {vars : Environment} {depth : ℕ} {scope : Scope} {text out : List ℕ} {cost : ℕ} → HasValue vars depth scope text out cost →
    (w : List ℕ) (k : ℕ) → k + cost ≤ cost_limit → text_run vars depth scope text (w, k) ≡ Ok (w ++ out, k + cost)
complete_from {vars} {depth} {scope} {text} {out} {cost} v w k low = from_rest vars depth scope text (w, k) (w ++ out, k + cost) (complete v w k low)
