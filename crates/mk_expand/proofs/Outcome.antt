-- What the pass comes to: a value within the limit, or the text's fault.
use Rattle.std.proofs.Common.{◌≡◌, ◌≢◌, ◌⊎◌, ℕ, zero, suc, ◌+◌, ◌<◌, ◌≤◌, List, [], ◌∷◌, ◌++◌, length, drop, Result, Ok, Err, Some, None, refl, ap, sym, ◌∙◌, subst, inl, inr, arith, append_assoc, append-nil, length-append}
use Rattle.std.proofs.lemmas.Bool.{cases_lt}
use Rattle.mk_expand.specs.declared.bracket.Bracket.{Bracket}
use Rattle.mk_expand.specs.declared.function.Function.{Function}
use Rattle.mk_expand.specs.declared.scope.Scope.{Scope}
use Rattle.mk_expand.specs.declared.fault.ExpandFault.{ExpandFault}
use Rattle.mk_expand.specs.declared.fault.ExpandFault.TheVariants.{BadCall, Unsupported, TooCostly}
use Rattle.mk_expand.specs.Bracket.{opening, closing, IsNested}
use Rattle.mk_expand.specs.Words.{words, row, row_behind}
use Rattle.mk_expand.specs.Lists.{applied}
use Rattle.mk_expand.specs.Call.{Inside, Name, Short, Choice, Loop, Strict, inside_of, refusal}
use Rattle.mk_expand.specs.Piece.{Piece, Byte, Stray, Unclosed, Reference, piece_of, piece_len}
use Rattle.mk_expand.specs.Meaning.{Environment, Meaning, Refused, Fixed, Met, Later, meaning, with_active, with_local}
use Rattle.mk_expand.specs.Draft.{State, ◌>>=◌, pay, put, put_apart, cost_limit}
use Rattle.mk_expand.specs.Value.{HasValue, nothing, first, HasPiece, byte, dollar, reference, HasInside, variable, strict, choice, loop, HasNamed, fixed, later, HasAll, none_left, one_more, HasEach, no_word, one_word, chosen}
use Rattle.mk_expand.specs.Pass.{Run, piece_run, walk, apart, meant, named, by_name, unless, all_values, strict_call, branch, choice_call, each, looped, loop_call, called, too_deep, inside_run, text_run}
use Rattle.mk_expand.specs.Failure.{FailsWith, fails, FailsPiece, costly, stray_end, stray, unclosed, short, deep, within, FailsInside, its_one, long, name_fails, named_fails, strict_fails, test_fails, branch_fails, variable_fails, list_fails, each_fails, FailsNamed, refused, met, too_long, later_fails, FailsAll, arg_fails, arg_refused, later_arg, FailsEach, here, further}
use Rattle.mk_expand.proofs.Steps.{pay_ok, pay_over, put_ok, put_over}
use Rattle.mk_expand.proofs.Reading.{Seen, seen_byte, seen_dollar, seen_end, seen_stray, seen_open, seen_reference, see}

-- a state is what a value at a cost makes of a text and a cost, within the limit
pub record Told (Has : List ℕ → ℕ → Type 0) (w : List ℕ) (k : ℕ) (t : State) : Type 0 where
  pub bytes : List ℕ
  pub cost : ℕ
  pub has : Has bytes cost
  pub written : t ≡ (w ++ bytes, k + cost)
  pub low : k + cost ≤ cost_limit

-- a run comes to such a state, or to a fault that there is
abbrev pub Tells : (List ℕ → ℕ → Type 0) → (ExpandFault → Type 0) → List ℕ → ℕ → Run → Type 0
Tells Has Fails w k (Ok t) = Told Has w k t
Tells Has Fails w k (Err f) = Fails f

told : {Has : List ℕ → ℕ → Type 0} {w : List ℕ} {k : ℕ} (bytes : List ℕ) (cost : ℕ) → Has bytes cost → k + cost ≤ cost_limit → Told Has w k (w ++ bytes, k + cost)
told bytes cost h low = record { bytes = bytes; cost = cost; has = h; written = refl; low = low }

module _ (Has : List ℕ → ℕ → Type 0) (Fails : ExpandFault → Type 0) (w : List ℕ) (k : ℕ) where
  -- a claim on a run, by what the run tells
  by_told : (Claim : Run → Type 0) → ((bytes : List ℕ) (cost : ℕ) → Has bytes cost → k + cost ≤ cost_limit → Claim (Ok (w ++ bytes, k + cost))) →
      ((f : ExpandFault) → Fails f → Claim (Err f)) → (r : Run) → Tells Has Fails w k r → Claim r
  by_told Claim ok err (Ok t) h = let P : State → Type 0 = λ t. Claim (Ok t) in subst P (sym h.written) (ok h.bytes h.cost h.has h.low)
  by_told Claim ok err (Err f) h = err f h

  -- the same run from an earlier cost
  from_earlier : (Has' : List ℕ → ℕ → Type 0) (Fails' : ExpandFault → Type 0) (j c : ℕ) → k ≡ j + c → ((bytes : List ℕ) (cost : ℕ) → Has bytes cost → Has' bytes (c + cost)) →
      ((f : ExpandFault) → Fails f → Fails' f) → (r : Run) → Tells Has Fails w k r → Tells Has' Fails' w j r
  from_earlier Has' Fails' j c e ok err = by_told (Tells Has' Fails' w j)
      (λ bytes cost h low. record { bytes = bytes; cost = c + cost; has = ok bytes cost h; written = ap (λ n. (w ++ bytes, n)) (let e : k + cost ≡ j + (c + cost) = omega arith in e); low = omega arith })
      err

paid : (Claim : Run → Type 0) (w : List ℕ) (k : ℕ) → (k < cost_limit → Claim (Ok (w, k + 1))) → (cost_limit ≤ k → Claim (Err TooCostly)) → Claim (pay (w, k))
paid Claim w k ok over = elim (cases_lt k cost_limit) as (λ _. Claim (pay (w, k))) [ inl low ↦ subst Claim (sym (pay_ok w k low)) (ok low) | inr past ↦ subst Claim (sym (pay_over w k past)) (over past) ]

placed : (Claim : Run → Type 0) (bytes w : List ℕ) (k : ℕ) → k ≤ cost_limit → (k + length bytes ≤ cost_limit → Claim (Ok (w ++ bytes, k + length bytes))) → (cost_limit < k + length bytes → Claim (Err TooCostly)) →
    Claim (put bytes (w, k))
placed Claim bytes w k low ok over =
    elim (cases_lt cost_limit (k + length bytes)) as (λ _. Claim (put bytes (w, k))) [ inr fits ↦ subst Claim (sym (put_ok bytes w k fits)) (ok fits) | inl past ↦ subst Claim (sym (put_over bytes w k low past)) (over past) ]

-- what an expansion apart hands on
abbrev taking : List ℕ → State → Result (List ℕ × State) ExpandFault
taking w t = Ok (t.0, (w, t.1))

-- what is to be shown of a text
abbrev TellsText : Environment → ℕ → Type 0
TellsText vars depth = (scope : Scope) (text w : List ℕ) (k : ℕ) → k ≤ cost_limit →
    Tells (HasValue vars depth scope text) (FailsWith vars depth scope k text) w k (text_run vars depth scope text (w, k))

module _ (vars : Environment) (depth : ℕ) (scope : Scope) (texts : TellsText vars depth) where
  by_text : (inner : Scope) (text w : List ℕ) (k : ℕ) → k ≤ cost_limit → (Claim : Run → Type 0) →
      ((bytes : List ℕ) (cost : ℕ) → HasValue vars depth inner text bytes cost → k + cost ≤ cost_limit → Claim (Ok (w ++ bytes, k + cost))) →
      ((f : ExpandFault) → FailsWith vars depth inner k text f → Claim (Err f)) → Claim (text_run vars depth inner text (w, k))
  by_text inner text w k low Claim ok err =
      by_told (HasValue vars depth inner text) (FailsWith vars depth inner k text) w k Claim ok err (text_run vars depth inner text (w, k)) (texts inner text w k low)

  tells_meant : (name w : List ℕ) (k : ℕ) (m : Meaning) → meaning vars scope name ≡ m → k ≤ cost_limit →
      Tells (HasNamed vars depth scope name) (FailsNamed vars depth scope k name) w k (meant vars (text_run vars depth) scope name m (w, k))
  tells_meant name w k Refused e low = refused e
  tells_meant name w k (Fixed bytes) e low =
      placed (Tells (HasNamed vars depth scope name) (FailsNamed vars depth scope k name) w k) bytes w k low (λ fits. told bytes (length bytes) (fixed e) fits) (λ past. too_long bytes (fixed e) past)
  tells_meant name w k Met e low = met e
  tells_meant name w k (Later text) e low =
      from_earlier (HasValue vars depth (with_active scope name) text) (FailsWith vars depth (with_active scope name) k text) w k (HasNamed vars depth scope name) (FailsNamed vars depth scope k name) k 0 (omega arith) (λ bytes cost h. let P : ℕ → Type 0 = HasNamed vars depth scope name bytes in subst P (let e : cost ≡ 0 + cost = omega arith in e) (later text e h)) (λ f h. later_fails text e h)
      (text_run vars depth (with_active scope name) text (w, k)) (texts (with_active scope name) text w k low)

  pub tells_named : (name w : List ℕ) (k : ℕ) → k ≤ cost_limit → Tells (HasNamed vars depth scope name) (FailsNamed vars depth scope k name) w k (named vars (text_run vars depth) scope name (w, k))
  tells_named name w k low = tells_meant name w k (meaning vars scope name) refl low

  -- the values of arguments, at a state
  record ToldAll (function : Function) (known args : List (List ℕ)) (w : List ℕ) (k : ℕ) (r : List (List ℕ) × State) : Type 0 where
    values : List (List ℕ)
    cost : ℕ
    has : HasAll vars depth scope function known args values cost
    written : r ≡ (values, (w, k + cost))
    low : k + cost ≤ cost_limit

  abbrev TellsAll : Function → List (List ℕ) → List (List ℕ) → List ℕ → ℕ → Result (List (List ℕ) × State) ExpandFault → Type 0
  TellsAll function known args w k (Ok r) = ToldAll function known args w k r
  TellsAll function known args w k (Err f) = FailsAll vars depth scope k function (length known) args f

  one_known : (function : Function) (known args : List (List ℕ)) (text w value : List ℕ) (k cost : ℕ) → HasValue vars depth scope text value cost → k + cost ≤ cost_limit →
      refusal function (length known) value (length args) ≡ None → (r : Result (List (List ℕ) × State) ExpandFault) → TellsAll function (known ++ value ∷ []) args w (k + cost) r → TellsAll function known (text ∷ args) w k r
  one_known function known args text w value k cost v low e (Ok r) t = record {
    values = t.values;
    cost = cost + t.cost;
    has = one_more v e t.has;
    written = t.written ∙ ap (λ n. (t.values, (w, n))) (let e : k + cost + t.cost ≡ k + (cost + t.cost) = omega arith in e);
    low = let l = t.low in omega arith;
  }
  one_known function known args text w value k cost v low e (Err f) t =
      let P : ℕ → Type 0 = λ n. FailsAll vars depth scope (k + cost) function n args f in
      later_arg value v low e (subst P (length-append known (value ∷ [])) t)

  tells_values : (function : Function) (known args : List (List ℕ)) (w : List ℕ) (k : ℕ) → k ≤ cost_limit →
      TellsAll function known args w k (all_values vars (text_run vars depth) scope function known args (w, k))
  tells_values function known [] w k low = record { values = known; cost = 0; has = none_left; written = ap (λ n. (known, (w, n))) (let e : k ≡ k + 0 = omega arith in e); low = omega arith }
  tells_values function known (text ∷ args) w k low =
      by_text scope text [] k low
      (λ r. TellsAll function known (text ∷ args) w k
      (((r >>= taking w) >>= λ v. unless vars (text_run vars depth) scope (refusal function (length known) v.0 (length args)) (known ++ v.0 ∷ []) v.1)
      >>= λ v. all_values vars (text_run vars depth) scope function v.0 args v.1))
      (λ value cost v here.
      elim (refusal function (length known) value (length args))
      as (λ o. refusal function (length known) value (length args) ≡ o →
      TellsAll function known (text ∷ args) w k (unless vars (text_run vars depth) scope o (known ++ value ∷ []) (w, k + cost) >>= λ v. all_values vars (text_run vars depth) scope function v.0 args v.1)) [
        | None ↦ λ e. one_known function known args text w value k cost v here e (all_values vars (text_run vars depth) scope function (known ++ value ∷ []) args (w, k + cost))
            (tells_values function (known ++ value ∷ []) args w (k + cost) here)
        | Some f ↦ λ e. arg_refused value v here e
      ] refl)
      (λ f h. arg_fails h)

  -- a row of texts after a gap
  abbrev HasRow : List ℕ → List ℕ → List ℕ → List (List ℕ) → List ℕ → ℕ → Type 0
  HasRow name body gap words bytes cost = (parts : List (List ℕ)) × HasEach vars depth scope name body words parts cost × (bytes ≡ row_behind gap parts)

  one_part : (name body gap word w bytes : List ℕ) (others : List (List ℕ)) (k cost : ℕ) → HasValue vars depth (with_local scope name word) body bytes cost → k + cost ≤ cost_limit → (r : Run) →
      Tells (HasRow name body (32 ∷ []) others) (FailsEach vars depth scope (k + cost) name body others) ((w ++ gap) ++ bytes) (k + cost) r →
      Tells (HasRow name body gap (word ∷ others)) (FailsEach vars depth scope k name body (word ∷ others)) w k r
  one_part name body gap word w bytes others k cost v low (Ok t) h = record {
    bytes = gap ++ (bytes ++ row_behind (32 ∷ []) h.has.0);
    cost = cost + h.cost;
    has = (bytes ∷ h.has.0, one_word v h.has.1, refl);
    written = h.written ∙ (ap (λ b. (((w ++ gap) ++ bytes) ++ b, k + cost + h.cost)) h.has.2
        ∙ (ap (λ w. (w, k + cost + h.cost)) (append_assoc (w ++ gap) bytes (row_behind (32 ∷ []) h.has.0) ∙ append_assoc w gap (bytes ++ row_behind (32 ∷ []) h.has.0))
        ∙ ap (λ n. (w ++ (gap ++ (bytes ++ row_behind (32 ∷ []) h.has.0)), n)) (let e : k + cost + h.cost ≡ k + (cost + h.cost) = omega arith in e)));
    low = let l = h.low in omega arith;
  }
  one_part name body gap word w bytes others k cost v low (Err f) h = further bytes v low h

  tells_each : (name body gap : List ℕ) (others : List (List ℕ)) (w : List ℕ) (k : ℕ) → k ≤ cost_limit →
      Tells (HasRow name body gap others) (FailsEach vars depth scope k name body others) w k (each vars (text_run vars depth) scope name body gap others (w, k))
  tells_each name body gap [] w k low = record { bytes = []; cost = 0; has = ([], no_word, refl); written = ap (λ w. (w, k)) (sym (append-nil w)) ∙ ap (λ n. (w ++ [], n)) (let e : k ≡ k + 0 = omega arith in e); low = omega arith }
  tells_each name body gap (word ∷ others) w k low =
      by_text (with_local scope name word) body (w ++ gap) k low (λ r. Tells (HasRow name body gap (word ∷ others)) (FailsEach vars depth scope k name body (word ∷ others)) w k (r >>= each vars (text_run vars depth) scope name body (32 ∷ []) others))
      (λ bytes cost v fits. one_part name body gap word w bytes others k cost v fits (each vars (text_run vars depth) scope name body (32 ∷ []) others ((w ++ gap) ++ bytes, k + cost))
      (tells_each name body (32 ∷ []) others ((w ++ gap) ++ bytes) (k + cost) fits))
      (λ f h. here h)

  module _ (kind : Bracket) (text w : List ℕ) (k : ℕ) where
    abbrev TellsInside : Run → Type 0
    TellsInside = Tells (HasInside vars depth scope kind text) (FailsInside vars depth scope k kind text) w k

    tells_name : inside_of kind text ≡ Name → TellsInside (by_name vars (text_run vars depth) scope text (w, k))
    tells_name e =
        paid (λ r. TellsInside (r >>= λ t. apart vars (text_run vars depth) scope text t >>= λ n. named vars (text_run vars depth) scope n.0 n.1)) w k
        (λ low. by_text scope text [] (k + 1) (omega arith) (λ r. TellsInside ((r >>= taking w) >>= λ n. named vars (text_run vars depth) scope n.0 n.1))
        (λ name cost v fits. from_earlier (HasNamed vars depth scope name) (FailsNamed vars depth scope (k + 1 + cost) name) w (k + 1 + cost) (HasInside vars depth scope kind text) (FailsInside vars depth scope k kind text) k (1 + cost) (omega arith) (λ bytes more h. variable e v h) (λ f h. named_fails name e v fits h)
        (named vars (text_run vars depth) scope name (w, k + 1 + cost)) (tells_named name w (k + 1 + cost) fits))
        (λ f h. name_fails e (omega arith) h))
        (λ past. its_one (λ s. cc) (omega arith))

    tells_strict : (function : Function) (args : List (List ℕ)) → inside_of kind text ≡ Strict function args → TellsInside (strict_call vars (text_run vars depth) scope function args (w, k))
    tells_strict function args e =
        paid (λ r. TellsInside (r >>= λ t. all_values vars (text_run vars depth) scope function [] args t >>= λ v. put (applied function v.0) v.1)) w k
        (λ low.
        strict_all (all_values vars (text_run vars depth) scope function [] args (w, k + 1)) (tells_values function [] args w (k + 1) (omega arith)) low)
        (λ past. its_one (λ s. cc) (omega arith))
      where
        strict_all : (r : Result (List (List ℕ) × State) ExpandFault) → TellsAll function [] args w (k + 1) r → k < cost_limit → TellsInside (r >>= λ v. put (applied function v.0) v.1)
        strict_all (Ok r) h low =
            let P : List (List ℕ) × State → Type 0 = λ r. TellsInside (put (applied function r.0) r.1) in
            subst P (sym h.written)
            (placed TellsInside (applied function h.values) w (k + 1 + h.cost) h.low
            (λ fits. record { bytes = applied function h.values; cost = 1 + h.cost + length (applied function h.values); has = strict function args h.values e h.has; written = ap (λ n. (w ++ applied function h.values, n)) (let e : k + 1 + h.cost + length (applied function h.values) ≡ k + (1 + h.cost + length (applied function h.values)) = omega arith in e); low = omega arith })
            (λ past. long (applied function h.values) (strict function args h.values e h.has) (omega arith)))
        strict_all (Err f) h low = strict_fails function args e (omega arith) h

    tells_branch : (test one other value : List ℕ) (cost : ℕ) → inside_of kind text ≡ Choice test one other → HasValue vars depth scope test value cost → k + 1 + cost ≤ cost_limit →
        TellsInside (branch vars (text_run vars depth) scope (chosen value one other) (w, k + 1 + cost))
    tells_branch test one other value cost e v fits =
        by_text scope (chosen value one other) [] (k + 1 + cost) fits (λ r. TellsInside (r >>= put_apart (w, k + 1 + cost)))
        (λ bytes more b fits'. placed TellsInside bytes w (k + 1 + cost + more) fits'
        (λ all. record { bytes = bytes; cost = 1 + cost + more + length bytes; has = choice test one other value e v b; written = ap (λ n. (w ++ bytes, n)) (let e : k + 1 + cost + more + length bytes ≡ k + (1 + cost + more + length bytes) = omega arith in e); low = omega arith })
        (λ past. long bytes (choice test one other value e v b) (omega arith)))
        (λ f h. branch_fails test one other value e v fits h)

    tells_choice : (test one other : List ℕ) → inside_of kind text ≡ Choice test one other → TellsInside (choice_call vars (text_run vars depth) scope test one other (w, k))
    tells_choice test one other e =
        paid (λ r. TellsInside (r >>= λ t. apart vars (text_run vars depth) scope test t >>= λ v. branch vars (text_run vars depth) scope (chosen v.0 one other) v.1)) w k
        (λ low. by_text scope test [] (k + 1) (omega arith) (λ r. TellsInside ((r >>= taking w) >>= λ v. branch vars (text_run vars depth) scope (chosen v.0 one other) v.1))
        (λ value cost v fits. tells_branch test one other value cost e v fits)
        (λ f h. test_fails test one other e (omega arith) h))
        (λ past. its_one (λ s. cc) (omega arith))

    tells_looped : (var list body name items : List ℕ) (cost more : ℕ) → inside_of kind text ≡ Loop var list body → HasValue vars depth scope var name cost → HasValue vars depth scope list items more →
        k + 1 + cost + more ≤ cost_limit → TellsInside (looped vars (text_run vars depth) scope name body items (w, k + 1 + cost + more))
    tells_looped var list body name items cost more e v l fits =
        by_told (HasRow name body [] (words items)) (FailsEach vars depth scope (k + 1 + cost + more) name body (words items)) [] (k + 1 + cost + more) (λ r. TellsInside (r >>= put_apart (w, k + 1 + cost + more)))
        (λ bytes last h fits'.
        let has : HasInside vars depth scope kind text (row h.0) (1 + cost + more + last + length (row h.0)) = loop var list body name items h.0 e v l h.1 in
        let P : List ℕ → Type 0 = λ bytes. HasInside vars depth scope kind text bytes (1 + cost + more + last + length bytes) in
        let whole : HasInside vars depth scope kind text bytes (1 + cost + more + last + length bytes) = subst P (sym h.2) has in
        placed TellsInside bytes w (k + 1 + cost + more + last) fits'
        (λ all. record { bytes = bytes; cost = 1 + cost + more + last + length bytes; has = whole; written = ap (λ n. (w ++ bytes, n)) (let e : k + 1 + cost + more + last + length bytes ≡ k + (1 + cost + more + last + length bytes) = omega arith in e); low = omega arith })
        (λ past. long bytes whole (omega arith)))
        (λ f h. each_fails var list body name items e v l fits h)
        (each vars (text_run vars depth) scope name body [] (words items) ([], k + 1 + cost + more)) (tells_each name body [] (words items) [] (k + 1 + cost + more) fits)

    tells_loop : (var list body : List ℕ) → inside_of kind text ≡ Loop var list body → TellsInside (loop_call vars (text_run vars depth) scope var list body (w, k))
    tells_loop var list body e =
        paid (λ r. TellsInside (r >>= λ t. apart vars (text_run vars depth) scope var t >>= λ n. apart vars (text_run vars depth) scope list n.1 >>= λ i. looped vars (text_run vars depth) scope n.0 body i.0 i.1)) w k
        (λ low. by_text scope var [] (k + 1) (omega arith) (λ r. TellsInside ((r >>= taking w) >>= λ n. apart vars (text_run vars depth) scope list n.1 >>= λ i. looped vars (text_run vars depth) scope n.0 body i.0 i.1))
        (λ name cost v fits. by_text scope list [] (k + 1 + cost) fits (λ r. TellsInside ((r >>= taking w) >>= λ i. looped vars (text_run vars depth) scope name body i.0 i.1))
        (λ items more l fits'. tells_looped var list body name items cost more e v l fits')
        (λ f h. list_fails var list body name e v fits h))
        (λ f h. variable_fails var list body e (omega arith) h))
        (λ past. its_one (λ s. cc) (omega arith))

    tells_called : (i : Inside) → inside_of kind text ≡ i → i ≢ Short → TellsInside (called vars (text_run vars depth) scope i text (w, k))
    tells_called Name e n = tells_name e
    tells_called Short e n = absurd (n refl)
    tells_called (Choice test one other) e n = tells_choice test one other e
    tells_called (Loop var list body) e n = tells_loop var list body e
    tells_called (Strict function args) e n = tells_strict function args e

-- what is to be shown of a reference, before a rest
abbrev TellsReferences : Environment → ℕ → Type 0
TellsReferences vars depth = (scope : Scope) (kind : Bracket) (text rest w : List ℕ) (k : ℕ) → IsNested kind 0 text →
    Tells (HasPiece vars depth scope (36 ∷ opening kind ∷ text ++ closing kind ∷ [])) (FailsPiece vars depth scope k (36 ∷ opening kind ∷ text ++ closing kind ∷ rest)) w k (inside_run vars depth scope kind text (w, k))

short_or_not : (i : Inside) → (i ≡ Short) ⊎ (i ≢ Short)
short_or_not Name = inr (λ e. cc)
short_or_not Short = inl refl
short_or_not (Choice test one other) = inr (λ e. cc)
short_or_not (Loop var list body) = inr (λ e. cc)
short_or_not (Strict function args) = inr (λ e. cc)

deep_fault : (i : Inside) → i ≢ Short → too_deep i ≡ TooCostly
deep_fault Name n = refl
deep_fault Short n = absurd (n refl)
deep_fault (Choice test one other) n = refl
deep_fault (Loop var list body) n = refl
deep_fault (Strict function args) n = refl

none_deep : (vars : Environment) → TellsReferences vars zero
none_deep vars scope kind text rest w k n =
    elim (short_or_not (inside_of kind text)) as (λ _. FailsPiece vars zero scope k (36 ∷ opening kind ∷ text ++ closing kind ∷ rest) (too_deep (inside_of kind text))) [
      | inl e ↦ let P : Inside → Type 0 = λ i. FailsPiece vars zero scope k (36 ∷ opening kind ∷ text ++ closing kind ∷ rest) (too_deep i) in subst P (sym e) (short kind text rest n e)
      | inr e ↦ let P : ExpandFault → Type 0 = λ f. FailsPiece vars zero scope k (36 ∷ opening kind ∷ text ++ closing kind ∷ rest) f in subst P (sym (deep_fault (inside_of kind text) e)) (deep kind text rest n e)
    ]

one_deeper : (vars : Environment) (depth : ℕ) → TellsText vars depth → TellsReferences vars (suc depth)
one_deeper vars depth texts scope kind text rest w k n =
    elim (short_or_not (inside_of kind text)) as (λ _. Tells (HasPiece vars (suc depth) scope (36 ∷ opening kind ∷ text ++ closing kind ∷ [])) (FailsPiece vars (suc depth) scope k (36 ∷ opening kind ∷ text ++ closing kind ∷ rest)) w k (inside_run vars (suc depth) scope kind text (w, k))) [
      | inl e ↦
          let P : Inside → Type 0 = λ i. Tells (HasPiece vars (suc depth) scope (36 ∷ opening kind ∷ text ++ closing kind ∷ [])) (FailsPiece vars (suc depth) scope k (36 ∷ opening kind ∷ text ++ closing kind ∷ rest)) w k (called vars (text_run vars depth) scope i text (w, k)) in
          subst P (sym e) (short kind text rest n e)
      | inr e ↦
          from_earlier (HasInside vars depth scope kind text) (FailsInside vars depth scope k kind text) w k (HasPiece vars (suc depth) scope (36 ∷ opening kind ∷ text ++ closing kind ∷ [])) (FailsPiece vars (suc depth) scope k (36 ∷ opening kind ∷ text ++ closing kind ∷ rest)) k 0 (omega arith)
          (λ bytes cost h. let P : ℕ → Type 0 = HasPiece vars (suc depth) scope (36 ∷ opening kind ∷ text ++ closing kind ∷ []) bytes in subst P (let e : cost ≡ 0 + cost = omega arith in e) (reference kind text n h))
          (λ f h. within kind text rest n h)
          (called vars (text_run vars depth) scope (inside_of kind text) text (w, k)) (tells_called vars depth scope texts kind text w k (inside_of kind text) refl e)
    ]

-- a text that fails, after a piece that has a value
before : {vars : Environment} {depth : ℕ} {scope : Scope} {piece bytes text : List ℕ} {cost m : ℕ} {f : ExpandFault} (k : ℕ) → HasPiece vars depth scope piece bytes cost → m ≡ k + cost →
    FailsWith vars depth scope m text f → FailsWith vars depth scope k (piece ++ text) f
before {vars} {depth} {scope} {piece} {bytes} {cost = cost} {m = m} {f = f} k p e (fails {cost = more} front rest out v low g) =
    let P : List ℕ → Type 0 = λ text. FailsWith vars depth scope k text f in
    let Q : ℕ → Type 0 = λ n. FailsPiece vars depth scope n rest f in
    subst P (append_assoc piece front rest)
    (fails (piece ++ front) rest (bytes ++ out) (first p v) (omega arith) (subst Q (let e : m + more ≡ k + (cost + more) = omega arith in e) g))

at_once : {vars : Environment} {depth : ℕ} {scope : Scope} {text : List ℕ} {f : ExpandFault} (k : ℕ) → k ≤ cost_limit → FailsPiece vars depth scope k text f → FailsWith vars depth scope k text f
at_once {vars} {depth} {scope} {text} {f} k low g =
    let Q : ℕ → Type 0 = λ n. FailsPiece vars depth scope n text f in
    fails [] text [] nothing (omega arith) (subst Q (let e : k ≡ k + 0 = omega arith in e) g)

-- texts, by what is known of references at the same depth
module _ (vars : Environment) (depth : ℕ) (references : TellsReferences vars depth) (scope : Scope) where
  abbrev TellsRun : List ℕ → List ℕ → ℕ → Run → Type 0
  TellsRun text w k r = Tells (HasValue vars depth scope text) (FailsWith vars depth scope k text) w k r

  -- a text after a piece that has a value, put after it
  behind_piece : (piece text bytes w : List ℕ) (k cost : ℕ) → HasPiece vars depth scope piece bytes cost → (r : Run) → TellsRun text (w ++ bytes) (k + cost) r → TellsRun (piece ++ text) w k r
  behind_piece piece text bytes w k cost p (Ok t) h = record {
    bytes = bytes ++ h.bytes;
    cost = cost + h.cost;
    has = first p h.has;
    written = h.written ∙ (ap (λ w. (w, k + cost + h.cost)) (append_assoc w bytes h.bytes) ∙ ap (λ n. (w ++ (bytes ++ h.bytes), n)) (let e : k + cost + h.cost ≡ k + (cost + h.cost) = omega arith in e));
    low = let l = h.low in omega arith;
  }
  behind_piece piece text bytes w k cost p (Err f) h = before k p refl h

  module _ (b : ℕ) (text : List ℕ) (later : (w : List ℕ) (k : ℕ) → k ≤ cost_limit → TellsRun (drop (piece_len b text) text) w k (walk (inside_run vars depth scope) (piece_len b text) text (w, k))) (w : List ℕ) (k : ℕ) (low : k ≤ cost_limit) where
    after_piece : (piece rest whole : List ℕ) → piece ++ rest ≡ whole → whole ≡ b ∷ text → drop (piece_len b text) text ≡ rest → (r : Run) →
        Tells (HasPiece vars depth scope piece) (FailsPiece vars depth scope k whole) w k r → TellsRun (b ∷ text) w k (r >>= walk (inside_run vars depth scope) (piece_len b text) text)
    after_piece piece rest whole cut all e r h =
        let P : List ℕ → Type 0 = λ t. TellsRun t w k (r >>= walk (inside_run vars depth scope) (piece_len b text) text) in
        subst P all
        (by_told (HasPiece vars depth scope piece) (FailsPiece vars depth scope k whole) w k
        (λ r. TellsRun whole w k (r >>= walk (inside_run vars depth scope) (piece_len b text) text))
        (λ bytes cost p fits.
        let run : Run = walk (inside_run vars depth scope) (piece_len b text) text (w ++ bytes, k + cost) in
        let Q : List ℕ → Type 0 = λ t. TellsRun t (w ++ bytes) (k + cost) run in
        let R : List ℕ → Type 0 = λ t. TellsRun t w k run in
        subst R cut (behind_piece piece rest bytes w k cost p run (subst Q e (later (w ++ bytes) (k + cost) fits))))
        (λ f g. at_once k low g)
        r h)

    stopped : (whole : List ℕ) (f : ExpandFault) → whole ≡ b ∷ text → piece_run (inside_run vars depth scope) (piece_of b text) (w, k) ≡ Err f → FailsPiece vars depth scope k whole f →
        TellsRun (b ∷ text) w k (walk (inside_run vars depth scope) 0 (b ∷ text) (w, k))
    stopped whole f all e g =
        let P : Run → Type 0 = λ r. TellsRun (b ∷ text) w k (r >>= walk (inside_run vars depth scope) (piece_len b text) text) in
        let Q : List ℕ → Type 0 = λ t. FailsPiece vars depth scope k t f in
        subst P (sym e) (at_once k low (subst Q all g))

    one_byte : (byte_is : ℕ) (piece rest whole : List ℕ) → HasPiece vars depth scope piece (byte_is ∷ []) 1 → piece ++ rest ≡ whole → whole ≡ b ∷ text → piece_of b text ≡ Byte byte_is → drop (piece_len b text) text ≡ rest →
        TellsRun (b ∷ text) w k (walk (inside_run vars depth scope) 0 (b ∷ text) (w, k))
    one_byte byte_is piece rest whole p cut all e l =
        let Q : List ℕ → Type 0 = λ t. FailsPiece vars depth scope k t TooCostly in
        after_piece piece rest whole cut all l (piece_run (inside_run vars depth scope) (piece_of b text) (w, k))
        (let P : Piece → Type 0 = λ q. Tells (HasPiece vars depth scope piece) (FailsPiece vars depth scope k whole) w k (piece_run (inside_run vars depth scope) q (w, k)) in
        subst P (sym e) (placed (Tells (HasPiece vars depth scope piece) (FailsPiece vars depth scope k whole) w k) (byte_is ∷ []) w k low
        (λ fits. told (byte_is ∷ []) 1 p fits) (λ past. subst Q cut (costly piece rest (byte_is ∷ []) p past))))

    whole_of : (c : ℕ) (rest : List ℕ) → b ≡ 36 → text ≡ c ∷ rest → ◌≡◌ {A = List ℕ} (36 ∷ c ∷ rest) (b ∷ text)
    whole_of c rest e t = ap (λ t. 36 ∷ t) (sym t) ∙ ap (λ b. b ∷ text) (sym e)

    run_of : (q : Piece) → piece_of b text ≡ q → piece_run (inside_run vars depth scope) (piece_of b text) (w, k) ≡ piece_run (inside_run vars depth scope) q (w, k)
    run_of q e = ap (λ q. piece_run (inside_run vars depth scope) q (w, k)) e

    tells_step : Seen b text → TellsRun (b ∷ text) w k (walk (inside_run vars depth scope) 0 (b ∷ text) (w, k))
    tells_step (seen_byte n p l) = one_byte b (b ∷ []) text (b ∷ text) (byte n) refl refl p (ap (λ n. drop n text) l)
    tells_step (seen_dollar rest e t p l) = one_byte 36 (36 ∷ 36 ∷ []) rest (36 ∷ 36 ∷ rest) dollar refl (whole_of 36 rest e t) p (ap (λ n. drop n text) l ∙ ap (drop 1) t)
    tells_step (seen_end e t p) = stopped (36 ∷ []) (Unsupported []) (ap (λ t. 36 ∷ t) (sym t) ∙ ap (λ b. b ∷ text) (sym e)) (run_of Stray p) stray_end
    tells_step (seen_stray c rest e t one two three p) = stopped (36 ∷ c ∷ rest) (Unsupported []) (whole_of c rest e t) (run_of Stray p) (stray one two three)
    tells_step (seen_open kind rest e t u p) = stopped (36 ∷ opening kind ∷ rest) BadCall (whole_of (opening kind) rest e t) (run_of Unclosed p) (unclosed kind u)
    tells_step (seen_reference kind inside rest e t n p l) =
        after_piece (36 ∷ opening kind ∷ inside ++ closing kind ∷ []) rest (36 ∷ opening kind ∷ inside ++ closing kind ∷ rest)
        (ap (λ t. 36 ∷ opening kind ∷ t) (append_assoc inside (closing kind ∷ []) rest)) (whole_of (opening kind) (inside ++ closing kind ∷ rest) e t) l
        (piece_run (inside_run vars depth scope) (piece_of b text) (w, k))
        (let P : Run → Type 0 = Tells (HasPiece vars depth scope (36 ∷ opening kind ∷ inside ++ closing kind ∷ [])) (FailsPiece vars depth scope k (36 ∷ opening kind ∷ inside ++ closing kind ∷ rest)) w k in
        subst P (sym (run_of (Reference kind inside) p)) (references scope kind inside rest w k n))

  tells_skipped : (skip : ℕ) (text w : List ℕ) (k : ℕ) → k ≤ cost_limit → TellsRun (drop skip text) w k (walk (inside_run vars depth scope) skip text (w, k))
  tells_skipped zero [] w k low = record { bytes = []; cost = 0; has = nothing; written = ap (λ w. (w, k)) (sym (append-nil w)) ∙ ap (λ n. (w ++ [], n)) (let e : k ≡ k + 0 = omega arith in e); low = omega arith }
  tells_skipped zero (b ∷ text) w k low = tells_step b text (λ w k low. tells_skipped (piece_len b text) text w k low) w k low (see b text)
  tells_skipped (suc skip) [] w k low = record { bytes = []; cost = 0; has = nothing; written = ap (λ w. (w, k)) (sym (append-nil w)) ∙ ap (λ n. (w ++ [], n)) (let e : k ≡ k + 0 = omega arith in e); low = omega arith }
  tells_skipped (suc skip) (b ∷ text) w k low = tells_skipped skip text w k low

tells_references : (vars : Environment) (depth : ℕ) → TellsReferences vars depth
tells_references vars zero = none_deep vars
tells_references vars (suc depth) = one_deeper vars depth (λ scope text w k low. tells_skipped vars depth (tells_references vars depth) scope 0 text w k low)

pub tells : (vars : Environment) (depth : ℕ) (scope : Scope) (text w : List ℕ) (k : ℕ) → k ≤ cost_limit →
    Tells (HasValue vars depth scope text) (FailsWith vars depth scope k text) w k (text_run vars depth scope text (w, k))
tells vars depth scope text w k low = tells_skipped vars depth (tells_references vars depth) scope 0 text w k low
