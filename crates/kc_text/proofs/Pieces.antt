-- The raw lines of a text are no longer than it, and hardly more than its bytes.
use Rattle.std.proofs.Common.{◌≡◌, ℕ, zero, suc, ◌+◌, ◌<◌, ◌≤◌, Bool, true, false, cond, List, [], ◌∷◌, length, map, get_or, arith, refl, Bor}
use Rattle.std.specs.Prelude.{◌==◌}
use Rattle.std.specs.List.{slice_split, onto_first, count_by}
use Rattle.std.proofs.lemmas.List.{length-map}
use Rattle.std.proofs.lemmas.List.Splits.{length-slice_split}
use Rattle.std.proofs.lemmas.List.Sums.{count_by-le-length}
use Rattle.kc_text.specs.Lines.{raw_lines}

-- no piece is longer than n
abbrev pub AreShort : ℕ → List (List ℕ) → Type 0
AreShort n [] = Unit {0}
AreShort n (piece ∷ pieces) = (length piece ≤ n) × AreShort n pieces

weaker : (n : ℕ) (pieces : List (List ℕ)) → AreShort n pieces → AreShort (suc n) pieces
weaker n [] short = tt
weaker n (piece ∷ pieces) short = (omega (arith, short.0), weaker n pieces short.1)

onto : (n x : ℕ) (pieces : List (List ℕ)) → AreShort n pieces → AreShort (suc n) (onto_first x pieces)
onto n x [] short = (omega arith, tt)
onto n x (piece ∷ pieces) short = (omega (arith, short.0), weaker n pieces short.1)

split : (p : ℕ → Bool) (xs : List ℕ) → AreShort (length xs) (slice_split p xs)
split p [] = (omega arith, tt)
split p (x ∷ xs) =
    elim (p x) as (λ b. AreShort (suc (length xs)) (cond b ([] ∷ slice_split p xs) (onto_first x (slice_split p xs)))) [
      | true ↦ (omega arith, weaker (length xs) (slice_split p xs) (split p xs))
      | false ↦ onto (length xs) x (slice_split p xs) (split p xs)
    ]

at : (n : ℕ) (raws : List (Bor (List ℕ))) (k : ℕ) (d : Bor (List ℕ)) → k < length raws → AreShort n (map (λ raw. raw.now) raws) → length (get_or raws k d).now ≤ n
at n [] k d below short = absurd (omega (arith, below))
at n (raw ∷ raws) zero d below short = short.0
at n (raw ∷ raws) (suc k) d below short = at n raws k d (omega (arith, below)) short.1

-- a raw line is no longer than the text
pub raw_line_short : (text : List ℕ) (raws : List (Bor (List ℕ))) (k : ℕ) (d : Bor (List ℕ)) → map (λ raw. raw.now) raws ≡ raw_lines text → k < length raws → length (get_or raws k d).now ≤ length text
unfolding raw_lines
raw_line_short text raws k d e below = at (length text) raws k d below (rw e (split (λ byte. byte == 10) text))

-- there is one raw line more than newlines
pub raw_lines_few : (text : List ℕ) (raws : List (Bor (List ℕ))) → map (λ raw. raw.now) raws ≡ raw_lines text → length raws ≤ length text + 1
unfolding raw_lines
raw_lines_few text raws e =
    let n : length (map (λ (raw : Bor (List ℕ)). raw.now) raws) ≡ length raws = length-map raws (λ raw. raw.now) in
    let m : length (slice_split (λ byte. byte == 10) text) ≡ count_by (λ byte. byte == 10) text + 1 = length-slice_split (λ byte. byte == 10) text in
    let c : count_by (λ byte. byte == 10) text ≤ length text = count_by-le-length (λ byte. byte == 10) text in
    let s : length (map (λ (raw : Bor (List ℕ)). raw.now) raws) ≡ length (slice_split (λ byte. byte == 10) text) = rw e refl in
    omega arith
