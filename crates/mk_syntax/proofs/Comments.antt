-- Cutting the comment of a line.
use Rattle.std.proofs.Common.{◌≡◌, ◌≤◌, ℕ, zero, suc, ◌+◌, eqb, true, false, cond, length, arith, List, [], ◌∷◌, ◌++◌, take, drop, sym, refl, ap, ◌∙◌, append_assoc, add-one}
use Rattle.std.specs.Prelude.{Option, Some, None}
use Rattle.std.specs.Option.{unwrap_or}
use Rattle.std.proofs.lemmas.Bool.Decides.{nat_tests}
use Rattle.memchr.specs.Find.{Nowhere, Passes, IsFirstByte, is_byte3}
use Rattle.mk_syntax.specs.Comment.{is_escape, kept_behind, without_comment}

-- the bytes that stay come first
pub without_comment-kept : (kept : ℕ) (text : List ℕ) → without_comment kept text ≡ take kept text ++ without_comment 0 (drop kept text)
without_comment-kept zero text = refl
without_comment-kept (suc kept) [] = refl
without_comment-kept (suc kept) (b ∷ text) = ap (λ r. b ∷ r) (without_comment-kept kept text)

-- a byte that begins neither a comment nor an escape stays, with what goes with it
kept_piece : (b : ℕ) (bs : List ℕ) → eqb b 35 ≡ false → is_escape b bs ≡ false → without_comment 0 (b ∷ bs) ≡ take (kept_behind b bs + 1) (b ∷ bs) ++ without_comment 0 (drop (kept_behind b bs + 1) (b ∷ bs))
kept_piece b bs plain unescaped =
    ap (λ t. cond t [] (cond (is_escape b bs) (without_comment 1 bs) (b ∷ without_comment (kept_behind b bs) bs))) plain
    ∙ ap (λ t. cond t (without_comment 1 bs) (b ∷ without_comment (kept_behind b bs) bs)) unescaped
    ∙ without_comment-kept (suc (kept_behind b bs)) (b ∷ bs)
    ∙ ap (λ n. take n (b ∷ bs) ++ without_comment 0 (drop n (b ∷ bs))) (sym (add-one (kept_behind b bs)))

-- one turn of the loop
pub cut_more : (whole kept rest : List ℕ) (b : ℕ) (bs : List ℕ) → whole ≡ kept ++ without_comment 0 rest → rest ≡ b ∷ bs → eqb b 35 ≡ false → is_escape b bs ≡ false → whole ≡ (kept ++ take (kept_behind b bs + 1) rest) ++ without_comment 0 (drop (kept_behind b bs + 1) rest)
cut_more whole kept rest b bs so_far e plain unescaped =
    so_far ∙ ap (λ r. kept ++ without_comment 0 r) e ∙ ap (λ r. kept ++ r) (kept_piece b bs plain unescaped)
    ∙ sym (append_assoc kept (take (kept_behind b bs + 1) (b ∷ bs)) (without_comment 0 (drop (kept_behind b bs + 1) (b ∷ bs))))
    ∙ ap (λ r. (kept ++ take (kept_behind b bs + 1) r) ++ without_comment 0 (drop (kept_behind b bs + 1) r)) (sym e)

-- a byte that begins no comment, escape or reference stays
plain_byte : (b : ℕ) (bs : List ℕ) → ¬ (is_byte3 35 92 36 b ≡ true) → without_comment 0 (b ∷ bs) ≡ b ∷ without_comment 0 bs
plain_byte b bs other = grind (arith, nat_tests)

-- bytes before the first that can begin one stay
plain_up_to : (n : ℕ) (text : List ℕ) → n ≤ length text → Nowhere (Passes (is_byte3 35 92 36) text) 0 n → without_comment 0 text ≡ take n text ++ without_comment 0 (drop n text)
plain_up_to zero text h none = refl
plain_up_to (suc n) [] h none = absurd (omega (arith, h))
plain_up_to (suc n) (b ∷ bs) h none =
    plain_byte b bs (none 0 (omega arith) (omega arith))
    ∙ ap (λ t. b ∷ t) (plain_up_to n bs (omega (arith, h)) (λ k low high. none (suc k) (omega arith) (omega (arith, high))))

pub plain_front : (text : List ℕ) (found : Option ℕ) → IsFirstByte (is_byte3 35 92 36) text found →
    (without_comment 0 text ≡ take (unwrap_or found (length text)) text ++ without_comment 0 (drop (unwrap_or found (length text)) text)) × (unwrap_or found (length text) ≤ length text)
plain_front text None none = (plain_up_to (length text) text (omega arith) none, omega arith)
plain_front text (Some place) first = (plain_up_to place text (omega (arith, first.0.high)) first.0.before, omega (arith, first.0.high))
