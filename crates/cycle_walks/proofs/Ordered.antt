-- Orders that grow at their end, and the cycles that they exclude.
use Rattle.std.proofs.Common.{ℕ, List, [], ◌∷◌, ◌++◌, ◌≡◌, ◌<◌, length, get_or, take, sym, subst, Bool, true, inl, inr, Contains, arith}
use Rattle.std.proofs.lemmas.Bool.{cases_lt}
use Rattle.std.proofs.lemmas.List.{length_push, get_or_default, get_or_append_left, get_or_push, take-append-le, take_at}
use Rattle.cycle_walks.specs.Order.{MayFollow, AreInOrder, IsOrder}
use Rattle.cycle_walks.specs.Walks.{IsWalk, OnCycle}
use Rattle.cycle_walks.proofs.Cycles.{named_last}
use Rattle.cycle_walks.proofs.Members.{Contains-take, place_in_take}

-- what holds at each place, of it and of what stands before it, with one more
pub each_push : (P : List ℕ → ℕ → Type 0) (order : List ℕ) (t : ℕ) → ((i : ℕ) → i < length order → P (take i order) (get_or order i 0)) → P order t
    → (i : ℕ) → i < length (order ++ t ∷ []) → P (take i (order ++ t ∷ [])) (get_or (order ++ t ∷ []) i 0)
each_push P order t all one i short =
    elim (cases_lt i (length order)) [
      | inl old ↦
          let front : take i (order ++ t ∷ []) ≡ take i order = take-append-le i order (t ∷ []) (omega arith) in
          let here : get_or (order ++ t ∷ []) i 0 ≡ get_or order i 0 = get_or_append_left order (t ∷ []) 0 i old in
          rw (front, here) (all i old)
      | inr past ↦
          let last : length order ≡ i = omega (arith, length_push order t) in
          let front : take i (order ++ t ∷ []) ≡ order = take_at order (t ∷ []) i last in
          let here : get_or (order ++ t ∷ []) i 0 ≡ t = get_or_push order t 0 i last in
          rw (front, here) one
    ]

-- one more that may follow
pub AreInOrder-push : (names : ℕ → ℕ → Bool) (order : List ℕ) (t : ℕ) → AreInOrder names order → MayFollow names order t → AreInOrder names (order ++ t ∷ [])
AreInOrder-push names order t all one = each_push (MayFollow names) order t all one

-- what a walk leads to stands before what it leaves
stands_before : (names : ℕ → ℕ → Bool) (order : List ℕ) → AreInOrder names order → (i : ℕ) (between : List ℕ) (t : ℕ) → i < length order → IsWalk names (get_or order i 0) (between ++ t ∷ []) → Contains (take i order) t
stands_before names order all i [] t short walk = (all i short).named t walk.0
stands_before names order all i (u ∷ us) t short walk =
    let (k, before, within, is) = place_in_take order i u ((all i short).named u walk.0) in
    let inner = stands_before names order all k us t within (subst (λ s. IsWalk names s (us ++ t ∷ [])) (sym is) walk.1) in
    let (j, earlier, inside, there) = place_in_take order k t inner in
    Contains-take order i j t (omega arith) inside there

-- where there is an order no node is on a cycle
pub no_cycle : (count : ℕ) (names : ℕ → ℕ → Bool) (order : List ℕ) → ((s t : ℕ) → names s t ≡ true → t < count) → IsOrder count names order → (t : ℕ) → OnCycle names t → ⊥
no_cycle count names order closed is t (between, walk) =
    let named = named_last names t between t walk in
    let (i, short, here) = (is.nodes t).1 (closed named.0 t named.1) in
    let here0 : get_or order i 0 ≡ t = subst (λ x. x ≡ t) (get_or_default order i t 0 short) here in
    let first = stands_before names order is.in_order i between t short (subst (λ s. IsWalk names s (between ++ t ∷ [])) (sym here0) walk) in
    (is.in_order i short).fresh (subst (Contains (take i order)) (sym here0) first)
