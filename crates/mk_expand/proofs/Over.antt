-- A text whose value would pass the limit is too costly.
use Rattle.std.proofs.Common.{◌≡◌, ◌≢◌, ℕ, suc, ◌+◌, ◌<◌, ◌≤◌, List, [], ◌∷◌, ◌++◌, length, Ok, Err, Some, refl, ap, sym, ◌∙◌, inl, inr, arith, append_assoc, append-nil}
use Rattle.std.proofs.lemmas.Bool.{cases_lt}
use Rattle.mk_expand.specs.declared.bracket.Bracket.{Bracket}
use Rattle.mk_expand.specs.declared.function.Function.{Function}
use Rattle.mk_expand.specs.declared.scope.Scope.{Scope}
use Rattle.mk_expand.specs.declared.fault.ExpandFault.{ExpandFault}
use Rattle.mk_expand.specs.declared.fault.ExpandFault.TheVariants.{TooCostly}
use Rattle.mk_expand.specs.Bracket.{opening, closing}
use Rattle.mk_expand.specs.Words.{words, row}
use Rattle.mk_expand.specs.Lists.{applied}
use Rattle.mk_expand.specs.Call.{Inside, Name, Short, Choice, Loop, Strict, inside_of, refusal}
use Rattle.mk_expand.specs.Meaning.{Environment, with_active, with_local}
use Rattle.mk_expand.specs.Draft.{State, ◌>>=◌, put, put_apart, cost_limit}
use Rattle.mk_expand.specs.Value.{HasValue, nothing, first, HasPiece, byte, dollar, reference, HasInside, variable, strict, choice, loop, HasNamed, fixed, later, HasAll, none_left, one_more, HasEach, no_word, one_word, chosen}
use Rattle.mk_expand.specs.Pass.{Expansion, piece_run, walk, apart, meant, named, by_name, unless, all_values, strict_call, branch, choice_call, each, looped, loop_call, called, inside_run, text_run}
use Rattle.mk_expand.proofs.Steps.{bind_ok, bind_err, pay_ok, pay_over, put_over, walk_stop}
use Rattle.mk_expand.proofs.Reading.{reference_piece, byte_piece}
use Rattle.mk_expand.proofs.Complete.{apart_ok, by_name_ok, strict_ok, branch_ok, choice_ok, looped_ok, loop_ok, all_values_ok, each_ok, from_rest, complete, complete_piece, complete_values, complete_each}

module _ (vars : Environment) (expand : Expansion) (scope : Scope) (f : ExpandFault) where
  pub apart_err : (text w : List ℕ) (k : ℕ) → expand scope text ([], k) ≡ Err f → apart vars expand scope text (w, k) ≡ Err f
  apart_err text w k e = bind_err (λ t. Ok (t.0, (w, t.1))) e

  pub by_name_err : (text w : List ℕ) (k : ℕ) → k < cost_limit → expand scope text ([], k + 1) ≡ Err f → by_name vars expand scope text (w, k) ≡ Err f
  by_name_err text w k low e =
      bind_ok (λ t. apart vars expand scope text t >>= λ n. named vars expand scope n.0 n.1) (pay_ok w k low)
      ∙ bind_err (λ n. named vars expand scope n.0 n.1) (apart_err text w (k + 1) e)

  pub strict_err : (function : Function) (args : List (List ℕ)) (w : List ℕ) (k : ℕ) → k < cost_limit →
      all_values vars expand scope function [] args (w, k + 1) ≡ Err f → strict_call vars expand scope function args (w, k) ≡ Err f
  strict_err function args w k low e =
      bind_ok (λ t. all_values vars expand scope function [] args t >>= λ v. put (applied function v.0) v.1) (pay_ok w k low)
      ∙ bind_err (λ v. put (applied function v.0) v.1) e

  pub branch_err : (text w : List ℕ) (k : ℕ) → expand scope text ([], k) ≡ Err f → branch vars expand scope text (w, k) ≡ Err f
  branch_err text w k e = bind_err (put_apart (w, k)) e

  pub choice_err : (test one other w : List ℕ) (k : ℕ) → k < cost_limit → expand scope test ([], k + 1) ≡ Err f → choice_call vars expand scope test one other (w, k) ≡ Err f
  choice_err test one other w k low e =
      bind_ok (λ t. apart vars expand scope test t >>= λ v. branch vars expand scope (chosen v.0 one other) v.1) (pay_ok w k low)
      ∙ bind_err (λ v. branch vars expand scope (chosen v.0 one other) v.1) (apart_err test w (k + 1) e)

  pub looped_err : (name body items w : List ℕ) (k : ℕ) → each vars expand scope name body [] (words items) ([], k) ≡ Err f → looped vars expand scope name body items (w, k) ≡ Err f
  looped_err name body items w k e = bind_err (put_apart (w, k)) e

  pub loop_err : (var list body w : List ℕ) (k : ℕ) → k < cost_limit → expand scope var ([], k + 1) ≡ Err f → loop_call vars expand scope var list body (w, k) ≡ Err f
  loop_err var list body w k low e =
      bind_ok (λ t. apart vars expand scope var t >>= λ n. apart vars expand scope list n.1 >>= λ i. looped vars expand scope n.0 body i.0 i.1) (pay_ok w k low)
      ∙ bind_err (λ n. apart vars expand scope list n.1 >>= λ i. looped vars expand scope n.0 body i.0 i.1) (apart_err var w (k + 1) e)

  pub list_err : (var list body w name : List ℕ) (k m : ℕ) → k < cost_limit → expand scope var ([], k + 1) ≡ Ok (name, m) → expand scope list ([], m) ≡ Err f →
      loop_call vars expand scope var list body (w, k) ≡ Err f
  list_err var list body w name k m low e g =
      bind_ok (λ t. apart vars expand scope var t >>= λ n. apart vars expand scope list n.1 >>= λ i. looped vars expand scope n.0 body i.0 i.1) (pay_ok w k low)
      ∙ (bind_ok (λ n. apart vars expand scope list n.1 >>= λ i. looped vars expand scope n.0 body i.0 i.1) (apart_ok vars expand scope var w name (k + 1) m e)
      ∙ bind_err (λ i. looped vars expand scope name body i.0 i.1) (apart_err list w m g))

  pub all_values_err : (function : Function) (known args : List (List ℕ)) (text w : List ℕ) (k : ℕ) → expand scope text ([], k) ≡ Err f →
      all_values vars expand scope function known (text ∷ args) (w, k) ≡ Err f
  all_values_err function known args text w k e =
      bind_err (λ v. all_values vars expand scope function v.0 args v.1)
      (bind_err (λ v. unless vars expand scope (refusal function (length known) v.0 (length args)) (known ++ v.0 ∷ []) v.1) (apart_err text w k e))

  pub all_values_refused : (function : Function) (known args : List (List ℕ)) (text w value : List ℕ) (k m : ℕ) → expand scope text ([], k) ≡ Ok (value, m) →
      refusal function (length known) value (length args) ≡ Some f → all_values vars expand scope function known (text ∷ args) (w, k) ≡ Err f
  all_values_refused function known args text w value k m e r =
      bind_err (λ v. all_values vars expand scope function v.0 args v.1)
      (bind_ok (λ v. unless vars expand scope (refusal function (length known) v.0 (length args)) (known ++ v.0 ∷ []) v.1) (apart_ok vars expand scope text w value k m e)
      ∙ ap (λ o. unless vars expand scope o (known ++ value ∷ []) (w, m)) r)

  pub each_err : (name body gap word w : List ℕ) (others : List (List ℕ)) (k : ℕ) → expand (with_local scope name word) body (w ++ gap, k) ≡ Err f →
      each vars expand scope name body gap (word ∷ others) (w, k) ≡ Err f
  each_err name body gap word w others k e = bind_err (each vars expand scope name body (32 ∷ []) others) e

-- a reference or call whose 1 is too costly
pub unpaid : (vars : Environment) (expand : Expansion) (scope : Scope) (i : Inside) (text w : List ℕ) (k : ℕ) → i ≢ Short → cost_limit ≤ k →
    called vars expand scope i text (w, k) ≡ Err TooCostly
unpaid vars expand scope Name text w k n h = bind_err (λ t. apart vars expand scope text t >>= λ n. named vars expand scope n.0 n.1) (pay_over w k h)
unpaid vars expand scope Short text w k n h = absurd (n refl)
unpaid vars expand scope (Choice test one other) text w k n h =
    bind_err (λ t. apart vars expand scope test t >>= λ v. branch vars expand scope (chosen v.0 one other) v.1) (pay_over w k h)
unpaid vars expand scope (Loop var list body) text w k n h =
    bind_err (λ t. apart vars expand scope var t >>= λ n. apart vars expand scope list n.1 >>= λ i. looped vars expand scope n.0 body i.0 i.1) (pay_over w k h)
unpaid vars expand scope (Strict function args) text w k n h =
    bind_err (λ t. all_values vars expand scope function [] args t >>= λ v. put (applied function v.0) v.1) (pay_over w k h)

-- a whole text that fails, with nothing after it
pub err_rest : (vars : Environment) (depth : ℕ) (scope : Scope) (text : List ℕ) (s : State) (f : ExpandFault) →
    ((rest : List ℕ) → walk (inside_run vars depth scope) 0 (text ++ rest) s ≡ Err f) → text_run vars depth scope text s ≡ Err f
err_rest vars depth scope text s f e = ap (λ t. walk (inside_run vars depth scope) 0 t s) (sym (append-nil text)) ∙ e []

mutual
  pub over : {vars : Environment} {depth : ℕ} {scope : Scope} {text out : List ℕ} {cost : ℕ} → HasValue vars depth scope text out cost →
      (w : List ℕ) (k : ℕ) → k ≤ cost_limit → cost_limit < k + cost → (rest : List ℕ) → walk (inside_run vars depth scope) 0 (text ++ rest) (w, k) ≡ Err TooCostly
  over nothing w k low high rest = absurd (omega arith)
  over {vars} {depth} {scope} (first {piece = piece} {text = text} {bytes = bytes} {out = out} {cost = cost} {more = more} p v) w k low high rest =
      ap (λ t. walk (inside_run vars depth scope) 0 t (w, k)) (append_assoc piece text rest)
      ∙ elim (cases_lt cost_limit (k + cost)) as (λ _. walk (inside_run vars depth scope) 0 (piece ++ (text ++ rest)) (w, k) ≡ Err TooCostly) [
        | inl past ↦ over_piece p w k low past (text ++ rest)
        | inr here ↦ complete_piece p w k here (text ++ rest) ∙ over v (w ++ bytes) (k + cost) here (omega arith) rest
      ]

  pub over_piece : {vars : Environment} {depth : ℕ} {scope : Scope} {piece bytes : List ℕ} {cost : ℕ} → HasPiece vars depth scope piece bytes cost →
      (w : List ℕ) (k : ℕ) → k ≤ cost_limit → cost_limit < k + cost → (rest : List ℕ) → walk (inside_run vars depth scope) 0 (piece ++ rest) (w, k) ≡ Err TooCostly
  over_piece {vars} {depth} {scope} (byte {b = b} n) w k low high rest =
      walk_stop (inside_run vars depth scope) b rest (w, k) TooCostly (ap (λ p. piece_run (inside_run vars depth scope) p (w, k)) (byte_piece b rest n).0 ∙ put_over (b ∷ []) w k low high)
  over_piece {vars} {depth} {scope} dollar w k low high rest =
      walk_stop (inside_run vars depth scope) 36 (36 ∷ rest) (w, k) TooCostly (put_over (36 ∷ []) w k low high)
  over_piece {vars} (reference {depth = depth} {scope = scope} kind text n i) w k low high rest =
      ap (λ t. walk (inside_run vars (suc depth) scope) 0 (36 ∷ opening kind ∷ t) (w, k)) (append_assoc text (closing kind ∷ []) rest)
      ∙ walk_stop (inside_run vars (suc depth) scope) 36 (opening kind ∷ text ++ closing kind ∷ rest) (w, k) TooCostly
      (ap (λ p. piece_run (inside_run vars (suc depth) scope) p (w, k)) (reference_piece kind text rest n) ∙ over_inside i w k high)

  pub over_inside : {vars : Environment} {depth : ℕ} {scope : Scope} {kind : Bracket} {text bytes : List ℕ} {cost : ℕ} → HasInside vars depth scope kind text bytes cost →
      (w : List ℕ) (k : ℕ) → cost_limit < k + cost → called vars (text_run vars depth) scope (inside_of kind text) text (w, k) ≡ Err TooCostly
  over_inside {vars} {depth} {scope} (variable {text = text} {name = name} {cost = cost} {more = more} e v n) w k high =
      ap (λ i. called vars (text_run vars depth) scope i text (w, k)) e
      ∙ elim (cases_lt k cost_limit) as (λ _. by_name vars (text_run vars depth) scope text (w, k) ≡ Err TooCostly) [
        | inr past ↦ unpaid vars (text_run vars depth) scope Name text w k (λ e. cc) past
        | inl low ↦ elim (cases_lt cost_limit (k + 1 + cost)) as (λ _. by_name vars (text_run vars depth) scope text (w, k) ≡ Err TooCostly) [
          | inl past ↦ by_name_err vars (text_run vars depth) scope TooCostly text w k low (err_rest vars depth scope text ([], k + 1) TooCostly (over v [] (k + 1) (omega arith) past))
          | inr here ↦ by_name_ok vars (text_run vars depth) scope text w name k (k + 1 + cost) (Err TooCostly) low
              (from_rest vars depth scope text ([], k + 1) (name, k + 1 + cost) (complete v [] (k + 1) here)) (over_named n w (k + 1 + cost) here (omega arith))
        ]
      ]
  over_inside {vars} {depth} {scope} (strict {text = text} {cost = cost} function args values e a) w k high =
      ap (λ i. called vars (text_run vars depth) scope i text (w, k)) e
      ∙ elim (cases_lt k cost_limit) as (λ _. strict_call vars (text_run vars depth) scope function args (w, k) ≡ Err TooCostly) [
        | inr past ↦ unpaid vars (text_run vars depth) scope (Strict function args) text w k (λ e. cc) past
        | inl low ↦ elim (cases_lt cost_limit (k + 1 + cost)) as (λ _. strict_call vars (text_run vars depth) scope function args (w, k) ≡ Err TooCostly) [
          | inl past ↦ strict_err vars (text_run vars depth) scope TooCostly function args w k low (over_values a w (k + 1) (omega arith) past)
          | inr here ↦ strict_ok vars (text_run vars depth) scope function args values w k (k + 1 + cost) (Err TooCostly) low (complete_values a w (k + 1) here)
              (put_over (applied function values) w (k + 1 + cost) here (omega arith))
        ]
      ]
  over_inside {vars} {depth} {scope} (choice {text = text} {bytes = bytes} {cost = cost} {more = more} test one other value e t b) w k high =
      ap (λ i. called vars (text_run vars depth) scope i text (w, k)) e
      ∙ elim (cases_lt k cost_limit) as (λ _. choice_call vars (text_run vars depth) scope test one other (w, k) ≡ Err TooCostly) [
        | inr past ↦ unpaid vars (text_run vars depth) scope (Choice test one other) text w k (λ e. cc) past
        | inl low ↦ elim (cases_lt cost_limit (k + 1 + cost)) as (λ _. choice_call vars (text_run vars depth) scope test one other (w, k) ≡ Err TooCostly) [
          | inl past ↦ choice_err vars (text_run vars depth) scope TooCostly test one other w k low (err_rest vars depth scope test ([], k + 1) TooCostly (over t [] (k + 1) (omega arith) past))
          | inr here ↦ choice_ok vars (text_run vars depth) scope test one other w value k (k + 1 + cost) (Err TooCostly) low
              (from_rest vars depth scope test ([], k + 1) (value, k + 1 + cost) (complete t [] (k + 1) here))
              (elim (cases_lt cost_limit (k + 1 + cost + more)) as (λ _. branch vars (text_run vars depth) scope (chosen value one other) (w, k + 1 + cost) ≡ Err TooCostly) [
                | inl past ↦ branch_err vars (text_run vars depth) scope TooCostly (chosen value one other) w (k + 1 + cost)
                    (err_rest vars depth scope (chosen value one other) ([], k + 1 + cost) TooCostly (over b [] (k + 1 + cost) here past))
                | inr there ↦ branch_ok vars (text_run vars depth) scope (chosen value one other) w bytes (k + 1 + cost) (k + 1 + cost + more) (Err TooCostly)
                    (from_rest vars depth scope (chosen value one other) ([], k + 1 + cost) (bytes, k + 1 + cost + more) (complete b [] (k + 1 + cost) there))
                    (put_over bytes w (k + 1 + cost + more) there (omega arith))
              ])
        ]
      ]
  over_inside {vars} {depth} {scope} (loop {text = text} {cost = cost} {more = more} {last = last} var list body name items parts e v l p) w k high =
      ap (λ i. called vars (text_run vars depth) scope i text (w, k)) e
      ∙ elim (cases_lt k cost_limit) as (λ _. loop_call vars (text_run vars depth) scope var list body (w, k) ≡ Err TooCostly) [
        | inr past ↦ unpaid vars (text_run vars depth) scope (Loop var list body) text w k (λ e. cc) past
        | inl low ↦ elim (cases_lt cost_limit (k + 1 + cost)) as (λ _. loop_call vars (text_run vars depth) scope var list body (w, k) ≡ Err TooCostly) [
          | inl past ↦ loop_err vars (text_run vars depth) scope TooCostly var list body w k low (err_rest vars depth scope var ([], k + 1) TooCostly (over v [] (k + 1) (omega arith) past))
          | inr here ↦ elim (cases_lt cost_limit (k + 1 + cost + more)) as (λ _. loop_call vars (text_run vars depth) scope var list body (w, k) ≡ Err TooCostly) [
            | inl past ↦ list_err vars (text_run vars depth) scope TooCostly var list body w name k (k + 1 + cost) low
                (from_rest vars depth scope var ([], k + 1) (name, k + 1 + cost) (complete v [] (k + 1) here))
                (err_rest vars depth scope list ([], k + 1 + cost) TooCostly (over l [] (k + 1 + cost) here past))
            | inr there ↦ loop_ok vars (text_run vars depth) scope var list body w name items k (k + 1 + cost) (k + 1 + cost + more) (Err TooCostly) low
                (from_rest vars depth scope var ([], k + 1) (name, k + 1 + cost) (complete v [] (k + 1) here))
                (from_rest vars depth scope list ([], k + 1 + cost) (items, k + 1 + cost + more) (complete l [] (k + 1 + cost) there))
                (elim (cases_lt cost_limit (k + 1 + cost + more + last)) as (λ _. looped vars (text_run vars depth) scope name body items (w, k + 1 + cost + more) ≡ Err TooCostly) [
                  | inl past ↦ looped_err vars (text_run vars depth) scope TooCostly name body items w (k + 1 + cost + more) (over_each p [] [] (k + 1 + cost + more) there past)
                  | inr yonder ↦ looped_ok vars (text_run vars depth) scope name body items w (row parts) (k + 1 + cost + more) (k + 1 + cost + more + last) (Err TooCostly)
                      (complete_each p [] [] (k + 1 + cost + more) yonder) (put_over (row parts) w (k + 1 + cost + more + last) yonder (omega arith))
                ])
          ]
        ]
      ]

  pub over_named : {vars : Environment} {depth : ℕ} {scope : Scope} {name bytes : List ℕ} {cost : ℕ} → HasNamed vars depth scope name bytes cost →
      (w : List ℕ) (k : ℕ) → k ≤ cost_limit → cost_limit < k + cost → named vars (text_run vars depth) scope name (w, k) ≡ Err TooCostly
  over_named {vars} {depth} {scope} (fixed {name = name} {bytes = bytes} e) w k low high =
      ap (λ m. meant vars (text_run vars depth) scope name m (w, k)) e ∙ put_over bytes w k low high
  over_named {vars} {depth} {scope} (later {name = name} text e v) w k low high =
      ap (λ m. meant vars (text_run vars depth) scope name m (w, k)) e ∙ err_rest vars depth (with_active scope name) text (w, k) TooCostly (over v w k low high)

  over_values : {vars : Environment} {depth : ℕ} {scope : Scope} {function : Function} {known args values : List (List ℕ)} {cost : ℕ} → HasAll vars depth scope function known args values cost →
      (w : List ℕ) (k : ℕ) → k ≤ cost_limit → cost_limit < k + cost → all_values vars (text_run vars depth) scope function known args (w, k) ≡ Err TooCostly
  over_values none_left w k low high = absurd (omega arith)
  over_values {vars} {depth} {scope} {function} (one_more {known = known} {args = args} {text = text} {value = value} {cost = cost} {more = more} v n a) w k low high =
      elim (cases_lt cost_limit (k + cost)) as (λ _. all_values vars (text_run vars depth) scope function known (text ∷ args) (w, k) ≡ Err TooCostly) [
        | inl past ↦ all_values_err vars (text_run vars depth) scope TooCostly function known args text w k (err_rest vars depth scope text ([], k) TooCostly (over v [] k low past))
        | inr here ↦ all_values_ok vars (text_run vars depth) scope function known args text w value k (k + cost) (Err TooCostly)
            (from_rest vars depth scope text ([], k) (value, k + cost) (complete v [] k here)) n (over_values a w (k + cost) here (omega arith))
      ]

  over_each : {vars : Environment} {depth : ℕ} {scope : Scope} {name body : List ℕ} {words parts : List (List ℕ)} {cost : ℕ} → HasEach vars depth scope name body words parts cost →
      (gap w : List ℕ) (k : ℕ) → k ≤ cost_limit → cost_limit < k + cost → each vars (text_run vars depth) scope name body gap words (w, k) ≡ Err TooCostly
  over_each no_word gap w k low high = absurd (omega arith)
  over_each {vars} {depth} {scope} {name} {body} (one_word {word = word} {bytes = bytes} {words = others} {cost = cost} {more = more} v p) gap w k low high =
      elim (cases_lt cost_limit (k + cost)) as (λ _. each vars (text_run vars depth) scope name body gap (word ∷ others) (w, k) ≡ Err TooCostly) [
        | inl past ↦ each_err vars (text_run vars depth) scope TooCostly name body gap word w others k (err_rest vars depth (with_local scope name word) body (w ++ gap, k) TooCostly (over v (w ++ gap) k low past))
        | inr here ↦ each_ok vars (text_run vars depth) scope name body gap word w ((w ++ gap) ++ bytes) others k (k + cost) (Err TooCostly)
            (from_rest vars depth (with_local scope name word) body (w ++ gap, k) ((w ++ gap) ++ bytes, k + cost) (complete v (w ++ gap) k here))
            (over_each p (32 ∷ []) ((w ++ gap) ++ bytes) (k + cost) here (omega arith))
      ]
