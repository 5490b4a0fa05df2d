-- Pieces of the bytes of a file.
use Rattle.std.proofs.Common.{ℕ, zero, suc, ◌≡◌, ◌*◌, ◌≤◌, List, [], ◌∷◌, ◌++◌, length, take, drop, refl, ap, ◌∙◌, length-drop, take_all, arith}
use Rattle.root_image.specs.Lines.{pieces_from}

pub no_bytes : (bytes : List ℕ) → length bytes ≡ 0 → bytes ≡ []
no_bytes [] is = refl
no_bytes (b ∷ bytes) is = absurd (omega arith)

take_front : (n : ℕ) (one two : List ℕ) → n ≤ length one → take n (one ++ two) ≡ take n one
take_front zero one two under = refl
take_front (suc n) [] two under = absurd (omega arith)
take_front (suc n) (b ∷ one) two under = ap (λ l. b ∷ l) (take_front n one two (omega arith))

drop_front : (n : ℕ) (one two : List ℕ) → n ≤ length one → drop n (one ++ two) ≡ drop n one ++ two
drop_front zero one two under = refl
drop_front (suc n) [] two under = absurd (omega arith)
drop_front (suc n) (b ∷ one) two under = drop_front n one two (omega arith)

-- one piece more after full ones
pub pieces_more : (count : ℕ) (bytes piece : List ℕ) → length bytes ≡ count * 32 → length piece ≤ 32 → pieces_from (suc count) (bytes ++ piece) ≡ pieces_from count bytes ++ piece ∷ []
pieces_more zero bytes piece full short =
    let none = no_bytes bytes (omega arith) in
    ap (λ b. take 32 (b ++ piece) ∷ []) none ∙ ap (λ p. p ∷ []) (take_all 32 piece short)
pieces_more (suc count) bytes piece full short =
    let under : 32 ≤ length bytes = omega arith in
    let rest : length (drop 32 bytes) ≡ count * 32 = omega (arith, length-drop 32 bytes) in
    (λ i. take_front 32 bytes piece under i ∷ pieces_from (suc count) (drop_front 32 bytes piece under i))
    ∙ ap (λ ps. take 32 bytes ∷ ps) (pieces_more count (drop 32 bytes) piece rest short)
