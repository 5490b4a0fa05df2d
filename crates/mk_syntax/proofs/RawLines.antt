-- How many parts a text has, against its lines.
use Rattle.std.proofs.Common.{◌≡◌, ℕ, suc, ◌+◌, ◌≤◌, eqb, true, false, cond, Bool, List, [], ◌∷◌, length, arith}
use Rattle.std.specs.List.{count_by}
use Rattle.std.proofs.lemmas.List.Splits.{length-slice_split}
use Rattle.std.proofs.lemmas.List.Sums.{sum_by-cons}
use Rattle.mk_syntax.specs.Lines.{line_count, raw_lines}

-- one more byte, which may be a newline
one_more : (b : Bool) (m n k : ℕ) → m ≡ cond b 1 0 + k → k ≤ n → m ≤ cond b (n + 1) n
one_more true m n k e h = omega arith
one_more false m n k e h = omega arith

newlines-le : (text : List ℕ) → count_by (λ b. eqb b 10) text ≤ line_count text
newlines-le [] = omega arith
newlines-le (b ∷ []) = let e = sum_by-cons (λ b. cond (eqb b 10) 1 0) b [] in elim (eqb b 10) as (λ t. count_by (λ b. eqb b 10) (b ∷ []) ≡ cond t 1 0 + 0 → count_by (λ b. eqb b 10) (b ∷ []) ≤ 1) [ true ↦ λ h. omega arith | false ↦ λ h. omega arith ] e
newlines-le (b ∷ c ∷ text) =
    one_more (eqb b 10) _ _ (count_by (λ b. eqb b 10) (c ∷ text)) (sum_by-cons (λ b. cond (eqb b 10) 1 0) b (c ∷ text)) (newlines-le (c ∷ text))

-- a text has at most one part more than it has lines
pub length_raw_lines : (text : List ℕ) → length (raw_lines text) ≤ line_count text + 1
length_raw_lines text = omega (arith, length-slice_split (λ b. eqb b 10) text, newlines-le text)

-- one line more or none
one_less : (b : Bool) (n k : ℕ) → n ≤ k → cond b (n + 1) n ≤ suc k
one_less true n k h = omega arith
one_less false n k h = omega arith

-- a text has at most as many lines as bytes
pub line_count_small : (text : List ℕ) → line_count text ≤ length text
line_count_small [] = omega arith
line_count_small (b ∷ []) = omega arith
line_count_small (b ∷ c ∷ text) = one_less (eqb b 10) _ _ (line_count_small (c ∷ text))
