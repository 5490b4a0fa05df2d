-- Trimming the end of a text, byte by byte.
use Rattle.std.proofs.Common.{◌≡◌, ℕ, ◌≤◌, true, false, cond, List, [], ◌∷◌, ◌++◌, length, take, reverse, sym, refl, ap, ◌∙◌, arith}
use Rattle.std.proofs.lemmas.List.{reverse-append, reverse-reverse, take-append-le, take_all, length-reverse}
use Rattle.mk_syntax.specs.Blanks.{is_blank, skip_blanks, trim_end}

-- a blank at the end goes
pub trim_end-blank : (front : List ℕ) (b : ℕ) → is_blank b ≡ true → trim_end (front ++ b ∷ []) ≡ trim_end front
trim_end-blank front b blank =
    ap (λ r. reverse (skip_blanks r)) (reverse-append front (b ∷ [])) ∙ ap (λ t. reverse (cond t (skip_blanks (reverse front)) (b ∷ reverse front))) blank

-- another byte at the end stays
pub trim_end-kept : (front : List ℕ) (b : ℕ) → is_blank b ≡ false → trim_end (front ++ b ∷ []) ≡ front ++ b ∷ []
trim_end-kept front b kept =
    ap (λ r. reverse (skip_blanks r)) (reverse-append front (b ∷ []))
    ∙ ap (λ t. reverse (cond t (skip_blanks (reverse front)) (b ∷ reverse front))) kept
    ∙ ap reverse (sym (reverse-append front (b ∷ [])))
    ∙ reverse-reverse (front ++ b ∷ [])

skip_blanks-le : (text : List ℕ) → length (skip_blanks text) ≤ length text
skip_blanks-le [] = omega arith
skip_blanks-le (b ∷ bs) =
    let h = skip_blanks-le bs in
    elim (is_blank b) as (λ t. length (cond t (skip_blanks bs) (b ∷ bs)) ≤ length (b ∷ bs)) [ true ↦ omega arith | false ↦ omega arith ]

fronts : (text : List ℕ) → take (length (reverse (skip_blanks text))) (reverse text) ≡ reverse (skip_blanks text)
fronts [] = refl
fronts (b ∷ bs) =
    let short : length (reverse (skip_blanks bs)) ≤ length (reverse bs) = omega (arith, skip_blanks-le bs, length-reverse bs, length-reverse (skip_blanks bs)) in
    elim (is_blank b) as (λ t. take (length (reverse (cond t (skip_blanks bs) (b ∷ bs)))) (reverse (b ∷ bs)) ≡ reverse (cond t (skip_blanks bs) (b ∷ bs))) [
      | true ↦ ap (take (length (reverse (skip_blanks bs)))) (reverse-append (b ∷ []) bs) ∙ take-append-le _ (reverse bs) (b ∷ []) short ∙ fronts bs
      | false ↦ take_all (length (reverse (b ∷ bs))) (reverse (b ∷ bs)) (omega arith)
    ]

-- what is left without the blanks at the end is a front
pub trim_end_front : (text : List ℕ) → take (length (trim_end text)) text ≡ trim_end text
trim_end_front text = ap (take (length (trim_end text))) (sym (reverse-reverse text)) ∙ fronts (reverse text)
