-- The first place at which a test passes.
use Rattle.std.proofs.Common.{◌≡◌, ◌∙◌, ℕ, zero, suc, inl, inr, Option, ◌+◌, ◌<◌, ◌≤◌, ltb, Bool, true, false, cond, not, Some, None, List, [], ◌∷◌, length, take, drop, ap, subst, refl, arith}
use Rattle.std.specs.List.{position_or_len, position, slice_split, onto_first}
use Rattle.std.specs.Option.{unwrap_or}
use Rattle.std.proofs.lemmas.Bool.{cases_Bool}
use Rattle.std.proofs.lemmas.Bool.Decides.{nat_tests}
use Rattle.memchr.specs.Find.{Nowhere, Passes, IsFirstByte}
use Rattle.std.proofs.lemmas.List.Sums.{prefix_len-le-length}
use Rattle.std.proofs.lemmas.List.Splits.{slice_split_first}

chosen : (n m : ℕ) → n ≤ m → unwrap_or (cond (ltb n m) (Some n) None) m ≡ n
chosen n m h = grind (arith, nat_tests)

-- a place, or the end, is the first place or the end
pub places : {X : Type 0} (p : X → Bool) (xs : List X) → (unwrap_or (position p xs) (length xs) ≡ position_or_len p xs) × (position_or_len p xs ≤ length xs)
places p xs =
    let h = prefix_len-le-length (λ x. not (p x)) xs in
    (chosen (position_or_len p xs) (length xs) h, h)

is_below : (n m k : ℕ) → cond (ltb n m) (Some n) None ≡ Some k → (n < m) × (n ≡ k)
is_below n m k e = grind (arith, nat_tests)

is_past : (n m : ℕ) → cond (ltb n m) (Some n) None ≡ None → m ≤ n
is_past n m e = grind (arith, nat_tests)

whole : (p : ℕ → Bool) (text : List ℕ) → length text ≤ position_or_len p text → slice_split p text ≡ text ∷ []
whole p [] h = refl
whole p (x ∷ xs) h =
    elim (p x) as (λ t. length (x ∷ xs) ≤ cond (not t) (1 + position_or_len p xs) 0 → cond t ([] ∷ slice_split p xs) (onto_first x (slice_split p xs)) ≡ (x ∷ xs) ∷ [])
    [ true ↦ λ k. absurd (omega arith) | false ↦ λ k. ap (onto_first x) (whole p xs (omega arith)) ] h

-- a text before and after its first newline
pub split_here : (p : ℕ → Bool) (text : List ℕ) (place : ℕ) → position p text ≡ Some place → slice_split p text ≡ take place text ∷ slice_split p (drop (place + 1) text)
split_here p text place e =
    let h = is_below (position_or_len p text) (length text) place e in
    subst (λ n. slice_split p text ≡ take n text ∷ slice_split p (drop (n + 1) text)) h.1 (slice_split_first p text 0 h.0)

-- a text without a newline is one line
pub split_nowhere : (p : ℕ → Bool) (text : List ℕ) → position p text ≡ None → slice_split p text ≡ text ∷ []
split_nowhere p text e = whole p text (is_past _ _ e)

stops : (p : ℕ → Bool) (n : ℕ) (text : List ℕ) → n ≤ length text → Nowhere (Passes p text) 0 n → (n < length text → Passes p text n) → position_or_len p text ≡ n
stops p zero [] h none here = refl
stops p zero (x ∷ xs) h none here = ap (λ t. cond (not t) (1 + position_or_len p xs) 0) (here (omega arith))
stops p (suc n) [] h none here = absurd (omega (arith, h))
stops p (suc n) (x ∷ xs) h none here =
    let later = stops p n xs (omega (arith, h)) (λ k low high. none (suc k) (omega arith) (omega (arith, high))) (λ below. here (omega (arith, below))) in
    elim (cases_Bool (p x)) as (λ _. position_or_len p (x ∷ xs) ≡ suc n) [
      | inl t ↦ absurd (none 0 (omega arith) (omega arith) t)
      | inr f ↦ ap (λ t. cond (not t) (1 + position_or_len p xs) 0) f ∙ omega (arith, later)
    ]

past : (n m : ℕ) → n ≡ m → None ≡ cond (ltb n m) (Some n) None
past n m e = grind (arith, nat_tests)

below : (n m k : ℕ) → n ≡ k → k < m → Some k ≡ cond (ltb n m) (Some n) None
below n m k e h = grind (arith, nat_tests)

-- the place that a search for a byte finds
pub found_place : (p : ℕ → Bool) (text : List ℕ) (found : Option ℕ) → IsFirstByte p text found → found ≡ position p text
found_place p text None none = past _ _ (stops p (length text) text (omega arith) none (λ h. absurd (omega (arith, h))))
found_place p text (Some place) first = below _ _ place (stops p place text (omega (arith, first.0.high)) first.0.before (λ h. first.1)) first.0.high
