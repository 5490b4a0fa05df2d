-- Commas outside brackets, and the arguments between them.
use Rattle.std.proofs.Common.{◌≡◌, ◌⊎◌, inl, inr, ℕ, zero, suc, ◌+◌, ◌-◌, ◌<◌, ◌≤◌, Bool, true, false, cond, ◌&&◌, eqb, List, [], ◌∷◌, ◌++◌, length, take, drop, Option, Some, None, refl, ap, sym, ◌∙◌, subst, arith, length-append}
use Rattle.std.proofs.lemmas.Bool.Decides.{nat_tests}
use Rattle.std.proofs.lemmas.List.{drop-drop}
use Rattle.std.proofs.Math.Seq.{take-append_seam, drop-append-add}
use Rattle.mk_expand.specs.declared.bracket.Bracket.{Bracket}
use Rattle.mk_expand.specs.declared.bracket.Bracket.TheVariants.{Round, Curly}
use Rattle.mk_expand.specs.Bracket.{opening, closing, IsUnclosed, close_of, comma_of}
use Rattle.mk_expand.specs.Table.{may_divide}
use Rattle.mk_expand.specs.Call.{divided}
use Rattle.mk_expand.specs.Laws.{IsShut, IsWhole, IsCut, IsFirstComma, AreArguments, last, next}
use Rattle.mk_expand.proofs.Closing.{none_unclosed, unclosed_none}
use Rattle.mk_expand.proofs.Divided.{comma_on, comma_stop}

no_comma : (kind : Bracket) → (eqb 44 (opening kind) ≡ false) × (eqb 44 (closing kind) ≡ false)
no_comma Round = (refl, refl)
no_comma Curly = (refl, refl)

module _ (kind : Bracket) where
  -- how many brackets are open after a text, of so many before it
  abbrev open_behind : ℕ → List ℕ → ℕ
  open_behind level [] = level
  open_behind level (b ∷ text) =
      cond (eqb b (opening kind)) (open_behind (level + 1) text) (cond (eqb b (closing kind)) (open_behind (level - 1) text) (open_behind level text))

  -- a bracket that doesn't close stays open
  stays_open : (text : List ℕ) (below level place : ℕ) → close_of kind below place text ≡ None → below < level → 0 < open_behind level text
  stays_open [] below level place e low = omega arith
  stays_open (b ∷ text) below level place e low =
      by (eqb b (opening kind)) (eqb b (closing kind)) (eqb below 0) e (λ e. stays_open text (below + 1) (level + 1) (place + 1) e (omega arith))
      (λ z e. stays_open text (below - 1) (level - 1) (place + 1) e (grind (arith, nat_tests))) (λ e. stays_open text below level (place + 1) e low)
    where
      by : {A B C : Option ℕ} {X Y Z : ℕ} (p q n : Bool) → cond p A (cond q (cond n (Some place) B) C) ≡ None →
          (A ≡ None → 0 < X) → (n ≡ false → B ≡ None → 0 < Y) → (C ≡ None → 0 < Z) → 0 < cond p X (cond q Y Z)
      by true q n e x y z = x e
      by false true true e x y z = absurd (let f : Some place ≡ None = e in cc)
      by false true false e x y z = y refl e
      by false false n e x y z = z e

  open_before : (before behind : List ℕ) (level : ℕ) → close_of kind 0 0 behind ≡ None → 0 < open_behind level (before ++ opening kind ∷ behind)
  open_before [] behind level e = let up = stays_open behind 0 (level + 1) 0 e (omega arith) in grind (arith, nat_tests)
  open_before (b ∷ before) behind level e =
      let up = open_before before behind (level + 1) e in
      let down = open_before before behind (level - 1) e in let same = open_before before behind level e in grind (arith, nat_tests)

  shut_of_level : (front : List ℕ) → open_behind 0 front ≡ 0 → IsShut kind front
  shut_of_level front e before behind cut never =
      let opened = open_before before behind 0 (unclosed_none kind behind never) in
      let same : open_behind 0 front ≡ open_behind 0 (before ++ opening kind ∷ behind) = ap (open_behind 0) cut in
      absurd (omega arith)

  -- where brackets are open after a text, one of it stays open, or one that was open before it does
  record Opened (text : List ℕ) : Type 0 where
    before : List ℕ
    behind : List ℕ
    cut : text ≡ before ++ opening kind ∷ behind
    never : IsUnclosed kind behind

  abbrev Left : ℕ → List ℕ → Type 0
  Left level text = (below : ℕ) × (level ≡ suc below) × ((place : ℕ) → close_of kind below place text ≡ None)

  further : (b : ℕ) (text : List ℕ) → Opened text → Opened (b ∷ text)
  further b text o = record { before = b ∷ o.before; behind = o.behind; cut = ap (λ t. b ∷ t) o.cut; never = o.never }

  left_open : (text : List ℕ) (level : ℕ) → 0 < open_behind level text → Opened text ⊎ Left level text
  left_open [] zero low = absurd (omega arith)
  left_open [] (suc level) low = inr (level, refl, λ place. refl)
  left_open (b ∷ text) level low =
      elim (eqb b (opening kind)) as (λ p. eqb b (opening kind) ≡ p → Opened (b ∷ text) ⊎ Left level (b ∷ text)) [
        | true ↦ λ p. up p level (left_open text (level + 1) (grind (arith, nat_tests)))
        | false ↦ λ p.
            elim (eqb b (closing kind)) as (λ q. eqb b (closing kind) ≡ q → Opened (b ∷ text) ⊎ Left level (b ∷ text)) [
              | true ↦ λ q. down p q level (left_open text (level - 1) (grind (arith, nat_tests)))
              | false ↦ λ q. same p q (left_open text level (grind (arith, nat_tests)))
            ] refl
      ] refl
    where
      up : eqb b (opening kind) ≡ true → (level : ℕ) → Opened text ⊎ Left (level + 1) text → Opened (b ∷ text) ⊎ Left level (b ∷ text)
      up p level (inl o) = inl (further b text o)
      up p zero (inr (below, e, f)) =
          let z : below ≡ 0 = omega arith in let s : b ≡ opening kind = grind (arith, nat_tests) in
          inl (record { before = []; behind = text; cut = ap (λ c. c ∷ text) s; never = none_unclosed kind text (ap (λ n. close_of kind n 0 text) (sym z) ∙ f 0) })
      up p (suc level) (inr (below, e, f)) =
          let z : below ≡ level + 1 = omega arith in
          inr (level, refl, λ place. let n = ap (λ n. close_of kind n (place + 1) text) (sym z) ∙ f (place + 1) in grind (arith, nat_tests))

      down : eqb b (opening kind) ≡ false → eqb b (closing kind) ≡ true → (level : ℕ) → Opened text ⊎ Left (level - 1) text → Opened (b ∷ text) ⊎ Left level (b ∷ text)
      down p q level (inl o) = inl (further b text o)
      down p q level (inr (below, e, f)) = inr (suc below, (omega arith), λ place. let n = f (place + 1) in grind (arith, nat_tests))

      same : eqb b (opening kind) ≡ false → eqb b (closing kind) ≡ false → Opened text ⊎ Left level text → Opened (b ∷ text) ⊎ Left level (b ∷ text)
      same p q (inl o) = inl (further b text o)
      same p q (inr (below, e, f)) = inr (below, e, λ place. let n = f (place + 1) in grind (arith, nat_tests))

  level_of_shut : (front : List ℕ) → IsShut kind front → open_behind 0 front ≡ 0
  level_of_shut front shut =
      elim (open_behind 0 front) as (λ n. open_behind 0 front ≡ n → n ≡ 0) [
        | zero ↦ λ e. refl
        | suc n ↦ λ e. none (left_open front 0 (omega arith))
      ] refl
    where
      none : {n : ℕ} → Opened front ⊎ Left 0 front → suc n ≡ 0
      none (inl o) = absurd (shut o.before o.behind o.cut o.never)
      none (inr (below, e, f)) = absurd (omega arith)

  -- where the reading finds no comma
  comma_none : (front rest : List ℕ) (level place : ℕ) → open_behind level front ≡ 0 → comma_of kind level place (front ++ 44 ∷ rest) ≡ None → ⊥
  comma_none [] rest level place z e = let n = no_comma kind in grind (arith, nat_tests)
  comma_none (b ∷ front) rest level place z e =
      by (eqb b (opening kind)) (eqb b (closing kind)) (eqb b 44 && eqb level 0) z e (comma_none front rest (level + 1) (place + 1))
      (comma_none front rest (level - 1) (place + 1)) (comma_none front rest level (place + 1))
    where
      by : {A B C : Option ℕ} {X Y Z : ℕ} (p q r : Bool) → cond p X (cond q Y Z) ≡ 0 → cond p A (cond q B (cond r (Some place) C)) ≡ None →
          (X ≡ 0 → A ≡ None → ⊥) → (Y ≡ 0 → B ≡ None → ⊥) → (Z ≡ 0 → C ≡ None → ⊥) → ⊥
      by true q r z e x y w = x z e
      by false true r z e x y w = y z e
      by false false true z e x y w = cc
      by false false false z e x y w = w z e

  none_whole : (text : List ℕ) → comma_of kind 0 0 text ≡ None → IsWhole kind text
  none_whole text e front rest cut shut = comma_none front rest 0 0 (level_of_shut front shut) (sym (ap (comma_of kind 0 0) cut) ∙ e)

  -- where it finds one
  record First (level place : ℕ) (text : List ℕ) (at : ℕ) : Type 0 where
    front : List ℕ
    rest : List ℕ
    cut : text ≡ front ++ 44 ∷ rest
    there : at ≡ place + length front
    shut : open_behind level front ≡ 0
    none : comma_of kind level place front ≡ None

  comma_first : (text : List ℕ) (level place at : ℕ) → comma_of kind level place text ≡ Some at → First level place text at
  comma_first [] level place at = λ e. cc
  comma_first (b ∷ text) level place at =
      elim (eqb b (opening kind)) as (λ p. eqb b (opening kind) ≡ p → cond p (comma_of kind (level + 1) (place + 1) text) (cond (eqb b (closing kind)) (comma_of kind (level - 1) (place + 1) text) (cond (eqb b 44 && eqb level 0) (Some place) (comma_of kind level (place + 1) text))) ≡ Some at → First level place (b ∷ text) at) [
        | true ↦ λ p e. longer (level + 1) (λ front z. grind (arith, nat_tests)) (λ front n. grind (arith, nat_tests)) (comma_first text (level + 1) (place + 1) at e)
        | false ↦ λ p.
            elim (eqb b (closing kind)) as (λ q. eqb b (closing kind) ≡ q → cond q (comma_of kind (level - 1) (place + 1) text) (cond (eqb b 44 && eqb level 0) (Some place) (comma_of kind level (place + 1) text)) ≡ Some at → First level place (b ∷ text) at) [
              | true ↦ λ q e. longer (level - 1) (λ front z. grind (arith, nat_tests)) (λ front n. grind (arith, nat_tests)) (comma_first text (level - 1) (place + 1) at e)
              | false ↦ λ q.
                  elim (eqb b 44 && eqb level 0) as (λ r. (eqb b 44 && eqb level 0) ≡ r → cond r (Some place) (comma_of kind level (place + 1) text) ≡ Some at → First level place (b ∷ text) at) [
                    | true ↦ λ r e. record { front = []; rest = text; cut = ap (λ c. c ∷ text) (let s : b ≡ 44 = grind (arith, nat_tests) in s); there = (let s : place ≡ at = cc in omega arith); shut = grind (arith, nat_tests); none = refl }
                    | false ↦ λ r e. longer level (λ front z. grind (arith, nat_tests)) (λ front n. grind (arith, nat_tests)) (comma_first text level (place + 1) at e)
                  ] refl
            ] refl
      ] refl
    where
      longer : (more : ℕ) → ((front : List ℕ) → open_behind more front ≡ 0 → open_behind level (b ∷ front) ≡ 0) →
          ((front : List ℕ) → comma_of kind more (place + 1) front ≡ None → comma_of kind level place (b ∷ front) ≡ None) →
          First more (place + 1) text at → First level place (b ∷ text) at
      longer more moves keeps f =
          record { front = b ∷ f.front; rest = f.rest; cut = ap (λ t. b ∷ t) f.cut; there = (let e = f.there in omega arith); shut = moves f.front f.shut; none = keeps f.front f.none }

  cut_at : (text : List ℕ) (at : ℕ) → comma_of kind 0 0 text ≡ Some at → IsCut kind text (take at text) (drop (suc at) text)
  cut_at text at e =
      let f = comma_first text 0 0 at e in
      let there : at ≡ length f.front = (let t = f.there in omega arith) in
      let next : suc at ≡ length f.front + 1 = (let t = f.there in omega arith) in
      let front : take at text ≡ f.front = ap (λ n. take n text) there ∙ (ap (take (length f.front)) f.cut ∙ take-append_seam f.front (44 ∷ f.rest)) in
      let rest : drop (suc at) text ≡ f.rest = ap (λ n. drop n text) next ∙ (ap (drop (length f.front + 1)) f.cut ∙ drop-append-add f.front (44 ∷ f.rest) 1) in
      let here : IsCut kind text f.front f.rest = record { cut = f.cut; shut = shut_of_level f.front f.shut; whole = none_whole f.front f.none } in
      subst (λ t. IsCut kind text t (drop (suc at) text)) (sym front) (subst (IsCut kind text f.front) (sym rest) here)

  pub first_comma : (text : List ℕ) → IsFirstComma kind text (comma_of kind 0 0 text)
  first_comma text =
      elim (comma_of kind 0 0 text) as (λ r. comma_of kind 0 0 text ≡ r → IsFirstComma kind text r) [
        | None ↦ λ e. none_whole text e
        | Some at ↦ λ e. cut_at text at e
      ] refl

  module _ (most : Option ℕ) where
    abbrev Divides : ℕ → List ℕ → Type 0
    Divides count text = AreArguments kind most count text (divided kind most count 0 [] text)

    abbrev pub next_comma : ℕ → List ℕ → Option ℕ
    next_comma count text = cond (may_divide most count) (comma_of kind 0 0 text) None

    divisible : (m : Bool) (r : Option ℕ) (at : ℕ) → cond m r None ≡ Some at → (m ≡ true) × (r ≡ Some at)
    divisible true r at e = (refl, e)
    divisible false r at e = absurd (let f : None ≡ Some at = e in cc)

    pub arguments : (fuel count : ℕ) (text : List ℕ) → length text ≤ fuel → (r : Option ℕ) → next_comma count text ≡ r → Divides count text
    arguments fuel count text low None e =
        subst (AreArguments kind most count text) (sym (comma_stop kind most count text e)) (last (λ m. none_whole text (ap (λ m. cond m (comma_of kind 0 0 text) None) (sym m) ∙ e)))
    arguments zero count text low (Some at) e =
        let c = cut_at text at (divisible (may_divide most count) (comma_of kind 0 0 text) at e).1 in
        let size = ap length c.cut ∙ length-append (take at text) (44 ∷ drop (suc at) text) in
        absurd (omega arith)
    arguments (suc fuel) count text low (Some at) e =
        let d = divisible (may_divide most count) (comma_of kind 0 0 text) at e in
        let c = cut_at text at d.1 in
        let rest = drop (suc at) text in
        let size = ap length c.cut ∙ length-append (take at text) (44 ∷ rest) in
        let behind : drop 1 (drop at text) ≡ rest = drop-drop 1 at text ∙ ap (λ n. drop n text) (let n : at + 1 ≡ suc at = omega arith in n) in
        let all = comma_on kind most count text at e ∙ ap (λ t. take at text ∷ divided kind most (count + 1) 0 [] t) behind in
        subst (AreArguments kind most count text) (sym all) (next d.0 c (arguments fuel (count + 1) rest (omega arith) (next_comma (count + 1) rest) refl))
