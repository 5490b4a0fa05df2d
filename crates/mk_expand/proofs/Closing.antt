-- Where a bracket closes: the reading and the words for it say the same.
use Rattle.std.proofs.Common.{◌≡◌, ◌≢◌, ℕ, ◌+◌, ◌-◌, true, false, cond, eqb, List, [], ◌∷◌, ◌++◌, length, Some, None, refl, ap, ◌∙◌, inl, inr, arith}
use Rattle.std.proofs.lemmas.Bool.Decides.{nat_tests}
use Rattle.mk_expand.specs.declared.bracket.Bracket.{Bracket}
use Rattle.mk_expand.specs.declared.bracket.Bracket.TheVariants.{Round, Curly}
use Rattle.mk_expand.specs.Bracket.{opening, closing, IsNested, IsUnclosed, close_of}

pub two_kinds : (kind : Bracket) → opening kind ≢ closing kind
two_kinds Round e = grind (arith, nat_tests)
two_kinds Curly e = grind (arith, nat_tests)

module _ (kind : Bracket) where
  pub closing_at : (inside rest : List ℕ) (level place : ℕ) → IsNested kind level inside →
      close_of kind level place (inside ++ closing kind ∷ rest) ≡ Some (place + length inside)
  closing_at [] rest level place n = let two = two_kinds kind in grind (arith, nat_tests)
  closing_at (b ∷ inside) rest level place (inl n) =
      let two = two_kinds kind in let ih = closing_at inside rest (level + 1) (place + 1) n.1 in let e = n.0 in grind (arith, nat_tests)
  closing_at (b ∷ inside) rest level place (inr (inl n)) =
      let two = two_kinds kind in let ih = closing_at inside rest (level - 1) (place + 1) n.2 in let e = n.0 in let l = n.1 in grind (arith, nat_tests)
  closing_at (b ∷ inside) rest level place (inr (inr n)) =
      let ih = closing_at inside rest level (place + 1) n.2 in let e = n.0 in let l = n.1 in grind (arith, nat_tests)

  -- a text in which the bracket closes at a place
  pub record Closes (level place : ℕ) (text : List ℕ) (at : ℕ) : Type 0 where
    pub inside : List ℕ
    pub rest : List ℕ
    pub cut : text ≡ inside ++ closing kind ∷ rest
    pub nested : IsNested kind level inside
    pub there : at ≡ place + length inside

  longer : {level more place at : ℕ} {text : List ℕ} (b : ℕ) →
      ((inside : List ℕ) → IsNested kind more inside → IsNested kind level (b ∷ inside)) → Closes more (place + 1) text at → Closes level place (b ∷ text) at
  longer {level} {more} {place} {at} b keeps c =
      record { inside = b ∷ c.inside; rest = c.rest; cut = ap (λ t. b ∷ t) c.cut; nested = keeps c.inside c.nested; there = let e = c.there in omega arith }

  pub closing_sound : (text : List ℕ) (level place at : ℕ) → close_of kind level place text ≡ Some at → Closes level place text at
  closing_sound [] level place at = λ e. cc
  closing_sound (b ∷ text) level place at =
      elim (eqb b (opening kind)) as (λ q. eqb b (opening kind) ≡ q → cond q (close_of kind (level + 1) (place + 1) text) (cond (eqb b (closing kind)) (cond (eqb level 0) (Some place) (close_of kind (level - 1) (place + 1) text)) (close_of kind level (place + 1) text)) ≡ Some at → Closes level place (b ∷ text) at) [
        | true ↦ λ q e. longer b (λ inside n. inl (grind (arith, nat_tests), n)) (closing_sound text (level + 1) (place + 1) at e)
        | false ↦ λ q.
            elim (eqb b (closing kind)) as (λ p. eqb b (closing kind) ≡ p → cond p (cond (eqb level 0) (Some place) (close_of kind (level - 1) (place + 1) text)) (close_of kind level (place + 1) text) ≡ Some at → Closes level place (b ∷ text) at) [
              | true ↦ λ p.
                  elim (eqb level 0) as (λ z. eqb level 0 ≡ z → cond z (Some place) (close_of kind (level - 1) (place + 1) text) ≡ Some at → Closes level place (b ∷ text) at) [
                    | true ↦ λ z e. record { inside = []; rest = text; cut = ap (λ c. c ∷ text) (let s : b ≡ closing kind = grind (arith, nat_tests) in s); nested = grind (arith, nat_tests); there = let s : place ≡ at = cc in omega arith }
                    | false ↦ λ z e. longer b (λ inside n. inr (inl (grind (arith, nat_tests), grind (arith, nat_tests), n))) (closing_sound text (level - 1) (place + 1) at e)
                  ] refl
              | false ↦ λ p e. longer b (λ inside n. inr (inr (λ s. grind (arith, nat_tests), λ s. grind (arith, nat_tests), n))) (closing_sound text level (place + 1) at e)
            ] refl
      ] refl

  pub unclosed_none : (text : List ℕ) → IsUnclosed kind text → close_of kind 0 0 text ≡ None
  unclosed_none text never =
      elim (close_of kind 0 0 text) as (λ r. close_of kind 0 0 text ≡ r → r ≡ None) [
        | None ↦ λ e. refl
        | Some at ↦ λ e. let c = closing_sound text 0 0 at e in absurd (never c.inside c.rest c.cut c.nested)
      ] refl

  pub none_unclosed : (text : List ℕ) → close_of kind 0 0 text ≡ None → IsUnclosed kind text
  none_unclosed text e inside rest cut nested =
      let at : close_of kind 0 0 text ≡ Some (0 + length inside) = ap (close_of kind 0 0) cut ∙ closing_at inside rest 0 0 nested in
      cc
