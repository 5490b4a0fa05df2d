-- Whether the parts before a tail are one.
use Rattle.std.proofs.Common.{◌≡◌, ◌+◌, ◌==◌, true, List, [], ◌∷◌, ◌++◌, length, codes, arith, eq-eqb, ne_eqb, length-append, sym, ◌∙◌}
use Rattle.kc_text.specs.declared.part.Part.{Part}
use Rattle.kc_rows.specs.Table.{word}

pub one_part : (text tail : List Part) → (length tail + 1 == length (text ++ tail)) ≡ (length text == 1)
one_part [] tail = ne_eqb _ _ (λ e. omega (arith, e))
one_part (part ∷ []) tail = eq-eqb _ _ (omega arith)
one_part (part ∷ next ∷ text) tail =
    let all : length (text ++ tail) ≡ length text + length tail = length-append text tail in
    ne_eqb _ _ (λ e. omega (arith, e, all)) ∙ sym (ne_eqb _ _ (λ e. omega (arith, e)))

pub one_word : (tail : List Part) → (length tail + 1 == length (word (codes "m") ∷ tail)) ≡ true
one_word tail = eq-eqb _ _ (omega arith)
