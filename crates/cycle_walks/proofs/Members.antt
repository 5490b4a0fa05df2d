-- Whether a number stands in a list, by the test and by `Contains`.
use Rattle.std.proofs.Common.{ℕ, List, [], ◌∷◌, ◌++◌, ◌≡◌, ◌<◌, length, get_or, set, take, drop, refl, sym, ap, subst, ◌∙◌, true, false, ◌||◌, inl, inr, ◌⊎◌, Contains, arith, length-take, length-set, eqb}
use Rattle.std.specs.Cmp.{nat_eq_equiv}
use Rattle.std.specs.List.{AllByRecursion, IsDistinct, insert}
use Rattle.std.proofs.lemmas.List.Elements.{Contains-append_cases, Contains-append_left, Contains-append_right}
use Rattle.std.proofs.lemmas.Bool.{eqb-true, eq-eqb, ne_eqb, cases_eq, or_parts}
use Rattle.std.proofs.lemmas.List.{get_or-take, get_or_default, get_or-set_same, get_or-set_other, take-append-drop}
use Rattle.std.proofs.lemmas.Map.Keys.{IsDistinct-head, IsDistinct-cons}
use Rattle.std.proofs.lemmas.Map.Views.{list_any-from_Contains, Contains-from_any}
use Rattle.cycle_walks.specs.Graph.{Rows, row, is_in, IsGraph}

pub is_in-from : (xs : List ℕ) (t : ℕ) → Contains xs t → is_in xs t ≡ true
is_in-from xs t there = list_any-from_Contains nat_eq_equiv t xs there

pub Contains-from : (xs : List ℕ) (t : ℕ) → is_in xs t ≡ true → Contains xs t
Contains-from xs t there = Contains-from_any eqb-true t xs there

-- what isn't contained isn't in
pub is_in-none : (xs : List ℕ) (t : ℕ) → (Contains xs t → ⊥) → is_in xs t ≡ false
is_in-none xs t off =
    elim (is_in xs t) as (λ b. is_in xs t ≡ b → b ≡ false) [ true ↦ λ is. absurd (off (Contains-from xs t is)) | false ↦ λ _. refl ] refl

-- ---- one more at the front or the end

pub is_in-here : (xs : List ℕ) (t : ℕ) → is_in (t ∷ xs) t ≡ true
is_in-here xs t = ap (λ b. b || is_in xs t) (eq-eqb t t refl)

pub is_in-other : (xs : List ℕ) (t u : ℕ) → (u ≡ t → ⊥) → is_in (t ∷ xs) u ≡ is_in xs u
is_in-other xs t u apart = ap (λ b. b || is_in xs u) (ne_eqb u t apart)

pub is_in-kept : (xs : List ℕ) (t u : ℕ) → is_in xs u ≡ true → is_in (t ∷ xs) u ≡ true
is_in-kept xs t u there =
    elim (eqb u t) as (λ b. (b || is_in xs u) ≡ true) [ true ↦ refl | false ↦ there ]

pub is_in-push_here : (xs : List ℕ) (t : ℕ) → is_in (xs ++ t ∷ []) t ≡ true
is_in-push_here [] t = is_in-here [] t
is_in-push_here (x ∷ xs) t = is_in-kept (xs ++ t ∷ []) x t (is_in-push_here xs t)

pub is_in-push_other : (xs : List ℕ) (t u : ℕ) → (u ≡ t → ⊥) → is_in (xs ++ t ∷ []) u ≡ is_in xs u
is_in-push_other [] t u apart = is_in-other [] t u apart
is_in-push_other (x ∷ xs) t u apart = ap (λ b. eqb u x || b) (is_in-push_other xs t u apart)

-- ---- lists in which no number stands twice

all_apart : (xs : List ℕ) (t : ℕ) → is_in xs t ≡ false → AllByRecursion (λ u. eqb t u ≡ false) xs
all_apart [] t off = tt
all_apart (x ∷ xs) t off = let parts = or_parts (eqb t x) (is_in xs t) off in (parts.0, all_apart xs t parts.1)

off_from_apart : (xs : List ℕ) (t : ℕ) → AllByRecursion (λ u. eqb t u ≡ false) xs → is_in xs t ≡ false
off_from_apart [] t all = refl
off_from_apart (x ∷ xs) t all = ap (λ b. b || is_in xs t) all.0 ∙ off_from_apart xs t all.1

pub none_apart : IsDistinct eqb []
unfolding IsDistinct
none_apart = tt

pub IsDistinct-more : (xs : List ℕ) (t : ℕ) → is_in xs t ≡ false → IsDistinct eqb xs → IsDistinct eqb (t ∷ xs)
IsDistinct-more xs t off apart = IsDistinct-cons eqb t xs (all_apart xs t off) apart

pub IsDistinct-first : (xs : List ℕ) (t : ℕ) → IsDistinct eqb (t ∷ xs) → is_in xs t ≡ false
IsDistinct-first xs t apart = off_from_apart xs t (IsDistinct-head eqb t xs apart)

-- ---- the first of a list, by places

pub Contains-take : (xs : List ℕ) (i k t : ℕ) → k < i → k < length xs → get_or xs k 0 ≡ t → Contains (take i xs) t
Contains-take xs i k t before within is =
    (k, omega (arith, length-take i xs), get_or-take i xs k t before ∙ get_or_default xs k t 0 within ∙ is)

pub place_in_take : (xs : List ℕ) (i t : ℕ) → Contains (take i xs) t → (k : ℕ) × (k < i) × (k < length xs) × (get_or xs k 0 ≡ t)
place_in_take xs i t (k, short, is) =
    let before : k < i = omega (arith, length-take i xs) in
    let within : k < length xs = omega (arith, length-take i xs) in
    (k, before, within, get_or_default xs k 0 t within ∙ sym (get_or-take i xs k t before) ∙ is)

-- ---- rows of a graph

is_in-insert : (xs : List ℕ) (i y t : ℕ) → is_in (take i xs ++ y ∷ drop i xs) t ≡ true → (is_in xs t ≡ true) ⊎ (t ≡ y)
is_in-insert xs i y t there =
    elim (Contains-append_cases (take i xs) (y ∷ drop i xs) t (Contains-from (take i xs ++ y ∷ drop i xs) t there)) [
      | inl front ↦ inl (rw (← take-append-drop i xs) (is_in-from (take i xs ++ drop i xs) t (Contains-append_left (take i xs) (drop i xs) t front)))
      | inr back ↦ elim (cases_eq t y) [
        | inl is ↦ inr is
        | inr apart ↦ inl (subst (λ ys. is_in ys t ≡ true) (take-append-drop i xs) (is_in-from (take i xs ++ drop i xs) t (Contains-append_right (take i xs) (drop i xs) t
            (Contains-from (drop i xs) t (sym (is_in-other (drop i xs) y t apart) ∙ is_in-from (y ∷ drop i xs) t back)))))
      ]
    ]

-- a graph stays one where a row gets a node
pub IsGraph-insert : (rows : Rows) (node place other : ℕ) (new : List ℕ) → IsGraph rows → node < length rows → other < length rows → new ≡ insert (row rows node) place other → IsGraph (set rows node new)
IsGraph-insert rows node place other new g inside small is = record {
  few = omega (arith, g.few, length-set rows node new);
  closed = λ u v named.
      let same : length (set rows node new) ≡ length rows = length-set rows node new in
      let below : v < length rows = elim (cases_eq u node) [
        | inl here ↦
            let at : is_in new v ≡ true = subst (λ xs. is_in xs v ≡ true) (ap (row (set rows node new)) here ∙ get_or-set_same rows node new [] inside) named in
            elim (is_in-insert (row rows node) place other v (subst (λ xs. is_in xs v ≡ true) is at)) [
              | inl old ↦ g.closed node v old
              | inr one ↦ subst (λ x. x < length rows) (sym one) small
            ]
        | inr apart ↦ g.closed u v (subst (λ xs. is_in xs v ≡ true) (get_or-set_other rows node u new [] apart) named)
      ] in
      omega arith;
}
