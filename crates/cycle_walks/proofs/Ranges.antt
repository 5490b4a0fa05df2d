-- The numbers below a bound that pass a test, rising.
use Rattle.std.proofs.Common.{ℕ, List, [], ◌∷◌, ◌++◌, ◌≡◌, ◌+◌, ◌<◌, ◌↔◌, refl, sym, ap, ◌∙◌, Bool, true, false, ◌&&◌, cond, Contains, arith, eqb}
use Rattle.std.specs.List.{filter, range_with_len}
use Rattle.std.specs.List.Sorted.{IsStrictlyIncreasing}
use Rattle.std.proofs.lemmas.Bool.{and_parts, and_from, eqb-true}
use Rattle.std.proofs.lemmas.List.{map-id, append-nil}
use Rattle.std.proofs.lemmas.List.Elements.{filter-append}
use Rattle.std.proofs.lemmas.List.FromFn.{length-range_with_len, get_or-range_with_len, map-range_with_len_more}
use Rattle.std.proofs.lemmas.List.Kept.{IsStrictlyIncreasing-filter}
use Rattle.std.proofs.lemmas.Map.Views.{any-filter_same}
use Rattle.cycle_walks.specs.Graph.{is_in}
use Rattle.cycle_walks.proofs.Members.{is_in-from, Contains-from}

range_more : (from n : ℕ) → range_with_len from (n + 1) ≡ range_with_len from n ++ (from + n) ∷ []
range_more from n =
    sym (map-id (range_with_len from (n + 1))) ∙ map-range_with_len_more (λ k. k) from n (from + n) refl ∙ ap (λ xs. xs ++ (from + n) ∷ []) (map-id (range_with_len from n))

filter_more : (p : ℕ → Bool) (n : ℕ) → filter p (range_with_len 0 (n + 1)) ≡ filter p (range_with_len 0 n) ++ cond (p n) (n ∷ []) []
filter_more p n =
    let same : 0 + n ≡ n = omega arith in
    ap (filter p) (range_more 0 n ∙ ap (λ k. range_with_len 0 n ++ k ∷ []) same) ∙ filter-append p (range_with_len 0 n) (n ∷ [])

-- the next number passes, or doesn't
pub filter_yes : (p : ℕ → Bool) (n : ℕ) → p n ≡ true → filter p (range_with_len 0 (n + 1)) ≡ filter p (range_with_len 0 n) ++ n ∷ []
filter_yes p n passes = filter_more p n ∙ ap (λ b. filter p (range_with_len 0 n) ++ cond b (n ∷ []) []) passes

pub filter_no : (p : ℕ → Bool) (n : ℕ) → p n ≡ false → filter p (range_with_len 0 (n + 1)) ≡ filter p (range_with_len 0 n)
filter_no p n fails = filter_more p n ∙ ap (λ b. filter p (range_with_len 0 n) ++ cond b (n ∷ []) []) fails ∙ append-nil (filter p (range_with_len 0 n))

range_rises : (n : ℕ) → IsStrictlyIncreasing (range_with_len 0 n)
range_rises n k short =
    let long : k + 1 < n = omega (arith, length-range_with_len 0 n) in
    omega (arith, get_or-range_with_len 0 n k 0 (omega arith), get_or-range_with_len 0 n (k + 1) 0 long)

pub below_rise : (p : ℕ → Bool) (n : ℕ) → IsStrictlyIncreasing (filter p (range_with_len 0 n))
below_rise p n = IsStrictlyIncreasing-filter p (range_with_len 0 n) (range_rises n)

is_in-filter : (p : ℕ → Bool) (xs : List ℕ) (t : ℕ) → is_in (filter p xs) t ≡ (p t && is_in xs t)
is_in-filter p xs t = any-filter_same (eqb t) p (p t) (λ k same. ap p (sym (eqb-true t k same))) xs

is_in-range : (n t : ℕ) → t < n → is_in (range_with_len 0 n) t ≡ true
is_in-range n t below = is_in-from (range_with_len 0 n) t (t, omega (arith, length-range_with_len 0 n), get_or-range_with_len 0 n t t below ∙ omega arith)

range_below : (n t : ℕ) → Contains (range_with_len 0 n) t → t < n
range_below n t (k, short, is) =
    let inside : k < n = omega (arith, length-range_with_len 0 n) in
    omega (arith, get_or-range_with_len 0 n k t inside)

-- the list has exactly the numbers below the bound that pass
pub below_passes : (p : ℕ → Bool) (n t : ℕ) → Contains (filter p (range_with_len 0 n)) t ↔ ((t < n) × (p t ≡ true))
below_passes p n t = (
  λ there.
      let parts = and_parts (p t) (is_in (range_with_len 0 n) t) (sym (is_in-filter p (range_with_len 0 n) t) ∙ is_in-from (filter p (range_with_len 0 n)) t there) in
      (range_below n t (Contains-from (range_with_len 0 n) t parts.1), parts.0),
  λ both. Contains-from (filter p (range_with_len 0 n)) t (is_in-filter p (range_with_len 0 n) t ∙ and_from (p t) (is_in (range_with_len 0 n) t) both.1 (is_in-range n t both.0)),
)
