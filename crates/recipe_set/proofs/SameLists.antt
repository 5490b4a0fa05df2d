-- Two lists in strict order with the same members are equal.
use Rattle.std.proofs.Common.{◌≡◌, zero, suc, List, [], ◌∷◌, sym, refl, ap, ◌∙◌, subst, ◌⊎◌, inl, inr, ◌↔◌, Ordering, Less, arith}
use Rattle.std.specs.Prelude.{Contains, map}
use Rattle.std.specs.List.{AllByRecursion}
use Rattle.std.specs.List.Sorted.{IsStrictlySortedBy}
use Rattle.std.proofs.lemmas.List.Elements.{All-from_recursion, All-contains}

-- what a list contains is its first or in its rest
pub in_first : {X : Type 0} (x : X) (xs : List X) (k : X) → Contains (x ∷ xs) k → (k ≡ x) ⊎ Contains xs k
in_first x xs k (zero, within, is) = inl (sym is)
in_first x xs k (suc i, within, is) = inr (i, omega arith, is)

pub in_rest : {X : Type 0} (x : X) (xs : List X) (k : X) → Contains xs k → Contains (x ∷ xs) k
in_rest x xs k (i, within, is) = (suc i, omega arith, is)

pub is_first : {X : Type 0} (x : X) (xs : List X) → Contains (x ∷ xs) x
is_first x xs = (zero, omega arith, refl)

pub in_none : {X : Type 0} (k : X) → Contains [] k → ⊥
in_none k (i, within, is) = omega arith

-- a list in the order of what stands for its members
pub sorted_by : {X K : Type 0} (R : K → K → Ordering) (f : X → K) (xs : List X) → IsStrictlySortedBy R (map f xs) → IsStrictlySortedBy (λ a b. R (f a) (f b)) xs
unfolding IsStrictlySortedBy
sorted_by R f [] rises = tt
sorted_by {X = X} R f (x ∷ xs) rises = (above xs rises.0, sorted_by R f xs rises.1)
  where
    above : (ys : List X) → AllByRecursion (λ k. R (f x) k ≡ Less) (map f ys) → AllByRecursion (λ y. R (f x) (f y) ≡ Less) ys
    above [] all = tt
    above (y ∷ ys) all = (all.0, above ys all.1)

module _ {X : Type 0} (R : X → X → Ordering) (apart : (x y : X) → R x y ≡ Less → R y x ≡ Less → ⊥) where
  -- what stands after the first is above it
  above_first : (x : X) (xs : List X) (k : X) → IsStrictlySortedBy R (x ∷ xs) → Contains xs k → R x k ≡ Less
  unfolding IsStrictlySortedBy
  above_first x xs k rises inside = All-contains (λ y. R x y ≡ Less) xs k (All-from_recursion (λ y. R x y ≡ Less) xs rises.0) inside

  tail : (x : X) (xs : List X) → IsStrictlySortedBy R (x ∷ xs) → IsStrictlySortedBy R xs
  unfolding IsStrictlySortedBy
  tail x xs rises = rises.1

  first_same : (x : X) (xs : List X) (y : X) (ys : List X) → IsStrictlySortedBy R (x ∷ xs) → IsStrictlySortedBy R (y ∷ ys) → ((k : X) → Contains (x ∷ xs) k ↔ Contains (y ∷ ys) k) → x ≡ y
  first_same x xs y ys rises rose same =
      elim (in_first y ys x ((same x).0 (is_first x xs))) [
        | inl is ↦ is
        | inr above ↦ elim (in_first x xs y ((same y).1 (is_first y ys))) [
          | inl is ↦ sym is
          | inr below ↦ absurd (apart y x (above_first y ys x rose above) (above_first x xs y rises below))
        ]
      ]

  rest_within : (x : X) (xs ys : List X) (k : X) → IsStrictlySortedBy R (x ∷ xs) → (Contains (x ∷ xs) k → Contains (x ∷ ys) k) → Contains xs k → Contains ys k
  rest_within x xs ys k rises same inside =
      elim (in_first x ys k (same (in_rest x xs k inside))) [
        | inl is ↦
            let above : R x k ≡ Less = above_first x xs k rises inside in
            absurd (apart x k above (subst (λ q. R q x ≡ Less) (sym is) (subst (λ q. R x q ≡ Less) is above)))
        | inr there ↦ there
      ]

  pub same_lists : (xs ys : List X) → IsStrictlySortedBy R xs → IsStrictlySortedBy R ys → ((k : X) → Contains xs k ↔ Contains ys k) → xs ≡ ys
  same_lists [] [] rises rose same = refl
  same_lists [] (y ∷ ys) rises rose same = absurd (in_none y ((same y).1 (is_first y ys)))
  same_lists (x ∷ xs) [] rises rose same = absurd (in_none x ((same x).0 (is_first x xs)))
  same_lists (x ∷ xs) (y ∷ ys) rises rose same =
      let first : x ≡ y = first_same x xs y ys rises rose same in
      let rise : IsStrictlySortedBy R (x ∷ ys) = subst (λ z. IsStrictlySortedBy R (z ∷ ys)) (sym first) rose in
      let equal : (k : X) → Contains (x ∷ xs) k ↔ Contains (x ∷ ys) k = subst (λ z. (k : X) → Contains (x ∷ xs) k ↔ Contains (z ∷ ys) k) (sym first) same in
      let rest : xs ≡ ys = same_lists xs ys (tail x xs rises) (tail x ys rise)
      (λ k. (rest_within x xs ys k rises (equal k).0, rest_within x ys xs k rise (equal k).1)) in
      ap (λ z. z ∷ xs) first ∙ ap (λ zs. y ∷ zs) rest
