-- A need put among those of a task.
use Rattle.std.proofs.Common.{ℕ, List, [], ◌∷◌, ◌≡◌, ◌+◌, ◌-◌, ◌<◌, ◌≤◌, ◌↔◌, length, get_or, set, refl, sym, ap, subst, ◌∙◌, true, inl, inr, ◌⊎◌, Contains, Ok, Err, arith, length-set}
use Rattle.std.specs.List.{insert}
use Rattle.std.specs.List.Sorted.{IsStrictlyIncreasing, IsBinarySearchResult}
use Rattle.std.specs.Ordering.{nat_cmp}
use Rattle.std.proofs.lemmas.Bool.{false≢true, cases_lt, cases_eq}
use Rattle.std.proofs.lemmas.List.{get_or-set_same, get_or-set_other, get_or_default, get_or_past}
use Rattle.std.proofs.lemmas.List.Edits.{length-insert, get_or-insert_below, get_or-insert_at, get_or-insert_above}
use Rattle.std.proofs.lemmas.List.Kept.{AllPairs-from_increasing}
use Rattle.std.proofs.lemmas.List.Sorted.{IsPermutation-insert, IsPermutation-sym, Contains-permutation, searched}
use Rattle.cycle_walks.specs.Graph.{row, is_in}
use Rattle.cycle_walks.proofs.Members.{is_in-from, is_in-here, is_in-kept, is_in-other, Contains-from, IsGraph-insert}
use Rattle.dep_graph.specs.Needs.{Needs, needs_of, IsNeeds, IsAdded}

-- where a number goes into a list that rises
pub record IsPlace (xs : List ℕ) (i y : ℕ) : Type 0 where
  pub within : i ≤ length xs
  pub before : (k : ℕ) → k < i → get_or xs k 0 < y
  pub behind : (k : ℕ) → i ≤ k → k < length xs → y < get_or xs k 0

rises_far : (xs : List ℕ) → IsStrictlyIncreasing xs → (i j : ℕ) → i < j → j < length xs → get_or xs i 0 < get_or xs j 0
rises_far xs rises i j less short = AllPairs-from_increasing xs rises i j 0 less short

-- what a binary search of a list that rises takes
pub rises_on : (xs : List ℕ) → IsStrictlyIncreasing xs → (i j : ℕ) → i ≤ j → j < length xs → get_or xs i 0 ≤ get_or xs j 0
rises_on xs rises i j upto short =
    elim (cases_lt i j) [
      | inl less ↦ omega (arith, rises_far xs rises i j less short)
      | inr more ↦ let same : i ≡ j = omega arith in omega (arith, ap (λ k. get_or xs k 0) same)
    ]

-- a number that the search finds is in the list
pub found_in : (xs : List ℕ) (y i : ℕ) → IsStrictlyIncreasing xs → IsBinarySearchResult (λ z. nat_cmp z y) xs (Ok i) → is_in xs y ≡ true
found_in xs y i rises found =
    let at = searched xs y (Ok i) found (rises_on xs rises) in
    is_in-from xs y (i, at.0, get_or_default xs i y 0 at.0 ∙ at.1)

-- else it finds a place for it
pub place_of : (xs : List ℕ) (y i : ℕ) → IsStrictlyIncreasing xs → IsBinarySearchResult (λ z. nat_cmp z y) xs (Err i) → IsPlace xs i y
place_of xs y i rises found =
    let at = searched xs y (Err i) found (rises_on xs rises) in
    record { within = at.0; before = at.1; behind = at.2 }

-- the same of the needs of a task
pub place_among : (needs : Needs) (task on i : ℕ) (xs : List ℕ) → IsNeeds needs → xs ≡ needs_of needs task → IsBinarySearchResult (λ z. nat_cmp z on) xs (Err i) → IsPlace (needs_of needs task) i on
place_among needs task on i xs legal is found = place_of (needs_of needs task) on i (legal.rising task) (subst (λ ys. IsBinarySearchResult (λ z. nat_cmp z on) ys (Err i)) is found)

-- a number that has a place isn't in the list
pub not_in_place : (xs : List ℕ) (i y : ℕ) → IsPlace xs i y → Contains xs y → ⊥
not_in_place xs i y p (k, short, is) =
    let here : get_or xs k 0 ≡ y = get_or_default xs k 0 y short ∙ is in
    elim (cases_lt k i) [ inl before ↦ omega (arith, p.before k before) | inr behind ↦ omega (arith, p.behind k behind short) ]

rising_insert : (xs : List ℕ) (i y : ℕ) → IsStrictlyIncreasing xs → IsPlace xs i y → IsStrictlyIncreasing (insert xs i y)
rising_insert xs i y rises p k short =
    let long : k + 1 < length xs + 1 = omega (arith, length-insert xs i y p.within) in
    elim (cases_lt (k + 1) i) [
      | inl below ↦
          let left = get_or-insert_below xs i y 0 k (omega arith) p.within in
          let right = get_or-insert_below xs i y 0 (k + 1) below p.within in
          omega (arith, left, right, rises k (omega (arith, p.within)))
      | inr from ↦ elim (cases_eq (k + 1) i) [
        | inl at ↦
            let left = get_or-insert_below xs i y 0 k (omega arith) p.within in
            let right : get_or (insert xs i y) (k + 1) 0 ≡ y = ap (λ n. get_or (insert xs i y) n 0) at ∙ get_or-insert_at xs i y 0 p.within in
            omega (arith, left, right, p.before k (omega arith))
        | inr past ↦
            let right = get_or-insert_above xs i y 0 k (omega arith) p.within in
            elim (cases_eq k i) [
              | inl here ↦
                  let left : get_or (insert xs i y) k 0 ≡ y = ap (λ n. get_or (insert xs i y) n 0) here ∙ get_or-insert_at xs i y 0 p.within in
                  omega (arith, left, right, p.behind k (omega arith) (omega arith))
              | inr apart ↦
                  let back : (k - 1) + 1 ≡ k = omega arith in
                  let left : get_or (insert xs i y) k 0 ≡ get_or xs (k - 1) 0 = ap (λ n. get_or (insert xs i y) n 0) (sym back) ∙ get_or-insert_above xs i y 0 (k - 1) (omega arith) p.within in
                  omega (arith, left, right, rises_far xs rises (k - 1) k (omega arith) (omega arith))
            ]
      ]
    ]

-- what stands in the list then
Contains-insert : (xs : List ℕ) (i y t : ℕ) → Contains (insert xs i y) t ↔ (Contains xs t ⊎ (t ≡ y))
Contains-insert xs i y t =
    let moved = IsPermutation-insert xs i y in (
      λ there.
          let front = Contains-permutation (insert xs i y) (y ∷ xs) t (IsPermutation-sym (y ∷ xs) (insert xs i y) moved) there in
          elim (cases_eq t y) [ inl same ↦ inr same | inr apart ↦ inl (Contains-from xs t (sym (is_in-other xs y t apart) ∙ is_in-from (y ∷ xs) t front)) ],
      λ either. Contains-permutation (y ∷ xs) (insert xs i y) t moved (Contains-from (y ∷ xs) t (elim either [
        | inl there ↦ is_in-kept xs y t (is_in-from xs t there)
        | inr same ↦ subst (λ v. is_in (y ∷ xs) v ≡ true) (sym same) (is_in-here xs y)
      ])),
    )

module _ (needs : Needs) (legal : IsNeeds needs) (task on place : ℕ) (inside : task < length needs) (p : IsPlace (needs_of needs task) place on) where
  pub added_needs : on < length needs → IsNeeds (set needs task (insert (needs_of needs task) place on))
  added_needs small =
      let new = insert (needs_of needs task) place on in
      record {
        few = omega (arith, legal.few, length-set needs task new);
        graph = IsGraph-insert needs task place on new legal.graph inside small refl;
        rising = λ t. elim (cases_eq t task) [
          | inl same ↦ subst IsStrictlyIncreasing (sym (ap (row (set needs task new)) same ∙ get_or-set_same needs task new [] inside)) (rising_insert (needs_of needs task) place on (legal.rising task) p)
          | inr apart ↦ subst IsStrictlyIncreasing (sym (get_or-set_other needs task t new [] apart)) (legal.rising t)
        ];
      }

  pub added : IsAdded needs task on (set needs task (insert (needs_of needs task) place on))
  added =
      let new = insert (needs_of needs task) place on in
      record {
        count = length-set needs task new;
        needs = λ t u. elim (cases_eq t task) [
          | inl same ↦
              let at : row (set needs task new) t ≡ new = ap (row (set needs task new)) same ∙ get_or-set_same needs task new [] inside in
              let put = Contains-insert (needs_of needs task) place on u in (
                λ there. elim (put.0 (subst (λ xs. Contains xs u) at there)) [ inl old ↦ inl (subst (λ v. Contains (needs_of needs v) u) (sym same) old) | inr one ↦ inr (same, one) ],
                λ either. subst (λ xs. Contains xs u) (sym at) (put.1 (elim either [ inl old ↦ inl (subst (λ v. Contains (needs_of needs v) u) same old) | inr both ↦ inr both.1 ])),
              )
          | inr apart ↦
              let at : row (set needs task new) t ≡ needs_of needs t = get_or-set_other needs task t new [] apart in (
                λ there. inl (subst (λ xs. Contains xs u) at there),
                λ either. subst (λ xs. Contains xs u) (sym at) (elim either [ inl old ↦ old | inr both ↦ absurd (apart both.0) ]),
              )
        ];
      }

-- only a task has needs
pub user_below : (needs : Needs) (task need : ℕ) → is_in (needs_of needs task) need ≡ true → task < length needs
user_below needs task need there =
    elim (cases_lt task (length needs)) [ inl below ↦ below | inr past ↦ absurd (false≢true (sym (ap (λ xs. is_in xs need) (get_or_past needs task [] past)) ∙ there)) ]

-- a need that is there is added by changing nothing
pub added_again : (needs : Needs) (task on : ℕ) → Contains (needs_of needs task) on → IsAdded needs task on needs
added_again needs task on there = record {
  count = refl;
  needs = λ t u. (λ old. inl old, λ either. elim either [ inl old ↦ old | inr both ↦ subst (λ v. Contains (needs_of needs v) u) (sym both.0) (subst (λ v. Contains (needs_of needs task) v) (sym both.1) there) ]);
}
