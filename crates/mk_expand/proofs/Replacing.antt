-- A text in which another is exchanged: up to the first place where it stands, and from there.
use Rattle.std.proofs.Common.{◌≡◌, ℕ, zero, suc, ◌+◌, ◌-◌, ◌<◌, ◌≤◌, Bool, true, false, cond, ◌&&◌, List, [], ◌∷◌, ◌++◌, length, take, drop, refl, ap, sym, ◌∙◌, arith, append_assoc, subst, length-append, length-drop}
use Rattle.std.proofs.Math.Seq.{take-append_seam}
use Rattle.std.proofs.lemmas.Bool.Decides.{nat_tests}
use Rattle.std.proofs.lemmas.List.{drop-drop}
use Rattle.memchr.specs.Find.{Nowhere, OccursAt, occurs_at}
use Rattle.memchr.proofs.lemmas.MatchLemmas.{occurs_at-true, OccursAt-true, OccursAt-from_part, OccursAt-split}
use Rattle.mk_expand.specs.Words.{is_filled}
use Rattle.mk_expand.specs.Lists.{replaced}
use Rattle.mk_expand.specs.Laws.{IsReplaced, end, there, other}

replaced_empty : (to text : List ℕ) → replaced [] to 0 text ≡ text
replaced_empty to [] = refl
replaced_empty to (b ∷ text) = ap (λ t. b ∷ t) (replaced_empty to text)

-- where nothing is looked for
pub replaced_unsought : (from to text : List ℕ) → length from ≡ 0 → replaced from to 0 text ≡ text
replaced_unsought [] to text e = replaced_empty to text
replaced_unsought (b ∷ from) to text e = absurd (omega arith)

module _ (from to : List ℕ) where
  replaced_skip : (skip : ℕ) (text : List ℕ) → replaced from to skip text ≡ replaced from to 0 (drop skip text)
  replaced_skip zero [] = refl
  replaced_skip zero (b ∷ text) = refl
  replaced_skip (suc skip) [] = refl
  replaced_skip (suc skip) (b ∷ text) = replaced_skip skip text

  behind : (b k : ℕ) (text : List ℕ) → OccursAt text from k → OccursAt (b ∷ text) from (suc k)
  behind b k text o = record {
    fits = let f = o.fits in let e : suc k + length from ≡ suc (k + length from) = omega arith in rw e (omega arith);
    reads = λ j h. let e : suc k + j ≡ suc (k + j) = omega arith in rw e (o.reads j h);
  }

  ahead : (b k : ℕ) (text : List ℕ) → OccursAt (b ∷ text) from (suc k) → OccursAt text from k
  ahead b k text o = record {
    fits = let f : suc k + length from ≤ suc (length text) = o.fits in omega arith;
    reads = λ j h. let e : suc k + j ≡ suc (k + j) = omega arith in rw e at (o.reads j h);
  }

  not_here : (b : ℕ) (text : List ℕ) → (OccursAt (b ∷ text) from 0 → ⊥) → replaced from to 0 (b ∷ text) ≡ b ∷ replaced from to 0 text
  not_here b text no_match =
      let e : (is_filled from && occurs_at (b ∷ text) from 0) ≡ false = no_test (is_filled from) (occurs_at (b ∷ text) from 0) (λ t. no_match (OccursAt-true (b ∷ text) from 0 t)) in
      ap (λ q. cond q (to ++ replaced from to (length from - 1) text) (b ∷ replaced from to 0 text)) e
    where
      no_test : (p q : Bool) → (q ≡ true → ⊥) → (p && q) ≡ false
      no_test false q h = refl
      no_test true false h = refl
      no_test true true h = absurd (h refl)

  module _ (filled : 0 < length from) where
    here : (b : ℕ) (text : List ℕ) → OccursAt (b ∷ text) from 0 → replaced from to 0 (b ∷ text) ≡ to ++ replaced from to 0 (drop (length from) (b ∷ text))
    here b text o =
        let f : is_filled from ≡ true = grind (arith, nat_tests) in
        let e : (is_filled from && occurs_at (b ∷ text) from 0) ≡ true = ap (λ p. p && occurs_at (b ∷ text) from 0) f ∙ occurs_at-true (b ∷ text) from 0 o in
        let n : length from ≡ suc (length from - 1) = omega arith in
        ap (λ q. cond q (to ++ replaced from to (length from - 1) text) (b ∷ replaced from to 0 text)) e
        ∙ (ap (λ t. to ++ t) (replaced_skip (length from - 1) text) ∙ ap (λ n. to ++ replaced from to 0 (drop n (b ∷ text))) (sym n))

    pub replaced_none : (text : List ℕ) → Nowhere (OccursAt text from) 0 (length text + 1) → replaced from to 0 text ≡ text
    replaced_none [] never = refl
    replaced_none (b ∷ text) never =
        not_here b text (never 0 (omega arith) (omega arith))
        ∙ ap (λ t. b ∷ t) (replaced_none text (λ k low high o. never (suc k) (omega arith) (omega arith) (behind b k text o)))

    pub replaced_first : (k : ℕ) (text : List ℕ) → Nowhere (OccursAt text from) 0 k → OccursAt text from k →
        replaced from to 0 text ≡ take k text ++ (to ++ replaced from to 0 (drop (k + length from) text))
    replaced_first zero [] never o = absurd (let f : 0 + length from ≤ 0 = o.fits in omega arith)
    replaced_first (suc k) [] never o = absurd (let f : suc k + length from ≤ 0 = o.fits in omega arith)
    replaced_first zero (b ∷ text) never o =
        here b text o ∙ ap (λ n. to ++ replaced from to 0 (drop n (b ∷ text))) (let e : length from ≡ 0 + length from = omega arith in e)
    replaced_first (suc k) (b ∷ text) never o =
        let e : suc (k + length from) ≡ suc k + length from = omega arith in
        not_here b text (never 0 (omega arith) (omega arith))
        ∙ (ap (λ t. b ∷ t) (replaced_first k text (λ i low high p. never (suc i) (omega arith) (omega arith) (behind b i text p)) (ahead b k text o))
        ∙ ap (λ n. (b ∷ take k text) ++ (to ++ replaced from to 0 (drop n (b ∷ text)))) e)

    -- a text up to the first place, what comes there, and the rest
    pub replaced_cut : (k : ℕ) (text front found after : List ℕ) → Nowhere (OccursAt text from) 0 k → OccursAt text from k →
        front ≡ take k text → found ≡ drop k text → after ≡ drop (length from) found → replaced from to 0 text ≡ (front ++ to) ++ replaced from to 0 after
    replaced_cut k text front found after never o is_front is_found is_after =
        let rest : drop (k + length from) text ≡ after = sym (drop-drop (length from) k text) ∙ (ap (drop (length from)) (sym is_found) ∙ sym is_after) in
        replaced_first k text never o
        ∙ (ap (λ t. take k text ++ (to ++ replaced from to 0 t)) rest
        ∙ (ap (λ t. t ++ (to ++ replaced from to 0 after)) (sym is_front) ∙ sym (append_assoc front to (replaced from to 0 after))))

    pub replaced_law : (fuel : ℕ) (text : List ℕ) → length text ≤ fuel → IsReplaced from to text (replaced from to 0 text)
    replaced_law fuel [] low = end
    replaced_law zero (b ∷ text) low = absurd (omega arith)
    replaced_law (suc fuel) (b ∷ text) low =
        elim (occurs_at (b ∷ text) from 0) as (λ q. occurs_at (b ∷ text) from 0 ≡ q → IsReplaced from to (b ∷ text) (replaced from to 0 (b ∷ text))) [
          | true ↦ λ q.
              let o = OccursAt-true (b ∷ text) from 0 q in
              let rest = drop (length from) (b ∷ text) in
              let split : b ∷ text ≡ from ++ rest = OccursAt-split (b ∷ text) from 0 o ∙ ap (λ n. from ++ drop n (b ∷ text)) (let e : 0 + length from ≡ length from = omega arith in e) in
              let short : length rest ≤ fuel = omega (arith, length-drop (length from) (b ∷ text)) in
              let law : IsReplaced from to (from ++ rest) (to ++ replaced from to 0 rest) = there (replaced_law fuel rest short) in
              subst (λ out. IsReplaced from to (b ∷ text) out) (sym (here b text o)) (subst (λ t. IsReplaced from to t (to ++ replaced from to 0 rest)) (sym split) law)
          | false ↦ λ q.
              let never : OccursAt (b ∷ text) from 0 → ⊥ = λ o. let e = occurs_at-true (b ∷ text) from 0 o in cc in
              subst (λ out. IsReplaced from to (b ∷ text) out) (sym (not_here b text never))
              (other (λ rest e. never (stands b text rest e)) (replaced_law fuel text (omega arith)))
        ] refl
      where
        stands : (b : ℕ) (text rest : List ℕ) → b ∷ text ≡ from ++ rest → OccursAt (b ∷ text) from 0
        stands b text rest e =
            let fits : length (b ∷ text) ≡ length from + length rest = ap length e ∙ length-append from rest in
            OccursAt-from_part (b ∷ text) from 0 (omega arith) (ap (take (length from)) e ∙ take-append_seam from rest)
