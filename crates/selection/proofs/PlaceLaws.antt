-- The place of a name among packages.
use Rattle.std.proofs.Common.{ℕ, zero, suc, ◌+◌, ◌≡◌, ◌<◌, Bool, true, false, cond, not, nat_lt, is_some, ◌⊎◌, ◌&&◌, ◌||◌, List, [], ◌∷◌, length, map, get_or, Option, Some, None, Result, Ok, Err, Ordering, Less, Greater, refl, sym, ap, subst, ◌∙◌, ⊎_elim, arith}
use Rattle.std.specs.List.{list_any, position, position_or_len}
use Rattle.std.specs.List.Sorted.{IsBinarySearchResult, IsSearchInRange, IsStrictlySortedBy}
use Rattle.std.specs.Cmp.Lexicographic.{nat_list_cmp_total}
use Rattle.std.specs.Ordering.{is_eq}
use Rattle.std.proofs.lemmas.Bool.{cases_Bool, cases_lt, lt-ltb, le-ltb, false≢true, or_left, or_right}
use Rattle.std.proofs.lemmas.List.Quantifiers.{position-Some}
use Rattle.std.proofs.lemmas.List.Sorted.{searchable_from_sorted}
use Rattle.std.proofs.lemmas.List.Sums.{position_or_len_is}
use Rattle.br_path.specs.Text.{is_text}
use Rattle.selection.proofs.TextLaws.{cmp, same_text, text_same, other_text, apart_by, same_by, sorted_by_key, one_place}

module _ {X : Type 0} (test : X → Bool) (xs : List X) where
  position_some : (i : ℕ) (d : X) → i < length xs → test (get_or xs i d) ≡ true → ((k : ℕ) → k < i → test (get_or xs k d) ≡ false) → position test xs ≡ Some i
  position_some i d short here before =
      let first : position_or_len test xs ≡ i = position_or_len_is test xs i d (omega arith) before (λ _. here) in
      subst (λ n. cond (nat_lt n (length xs)) (Some n) None ≡ Some i) (sym first) (ap (λ b. cond b (Some i) None) (lt-ltb i (length xs) short))

  position_none : (d : X) → ((k : ℕ) → k < length xs → test (get_or xs k d) ≡ false) → position test xs ≡ None
  position_none d none =
      let first : position_or_len test xs ≡ length xs = position_or_len_is test xs (length xs) d (omega arith) none (λ over. absurd (omega (arith, over))) in
      subst (λ n. cond (nat_lt n (length xs)) (Some n) None ≡ None) (sym first) (ap (λ b. cond b (Some (length xs)) None) (le-ltb (length xs) (length xs) (omega arith)))

  some_lt : (n m : ℕ) → is_some (cond (nat_lt n m) (Some n) None) ≡ nat_lt n m
  some_lt n m = elim (nat_lt n m) as (λ b. is_some (cond b (Some n) None) ≡ b) [ true ↦ refl | false ↦ refl ]

more_lt : (b rest : Bool) (p n : ℕ) → rest ≡ nat_lt p n → (b || rest) ≡ nat_lt (cond (not b) (1 + p) 0) (suc n)
more_lt true rest p n is = sym (lt-ltb 0 (suc n) (omega arith))
more_lt false rest p n is =
    is
    ∙ ⊎_elim
    (λ less. lt-ltb p n less ∙ sym (lt-ltb (1 + p) (suc n) (omega arith)))
    (λ more. le-ltb p n more ∙ sym (le-ltb (1 + p) (suc n) (omega arith)))
    (cases_lt p n)

module _ {X : Type 0} (test : X → Bool) where
  any_is_lt : (xs : List X) → list_any test xs ≡ nat_lt (position_or_len test xs) (length xs)
  any_is_lt [] = refl
  any_is_lt (x ∷ xs) = more_lt (test x) (list_any test xs) (position_or_len test xs) (length xs) (any_is_lt xs)

  -- one passes where there is a first place
  pub any_is_place : (xs : List X) → list_any test xs ≡ is_some (position test xs)
  any_is_place xs = any_is_lt xs ∙ sym (some_lt test xs (position_or_len test xs) (length xs))

  -- one passes where that at a place does
  pub place_any : (xs : List X) (k : ℕ) (d : X) → k < length xs → test (get_or xs k d) ≡ true → list_any test xs ≡ true
  place_any [] k d short passes = absurd (omega (arith, short))
  place_any (x ∷ xs) zero d short passes = or_left (test x) (list_any test xs) passes
  place_any (x ∷ xs) (suc k) d short passes = or_right (test x) (list_any test xs) (place_any xs k d (omega arith) passes)

  pub any_place : (xs : List X) → list_any test xs ≡ true → (k : ℕ) × (k < length xs) × ((d : X) → test (get_or xs k d) ≡ true)
  any_place [] there = absurd (false≢true there)
  any_place (x ∷ xs) there =
      ⊎_elim
      (λ here. (zero, omega arith, λ d. here))
      (λ off.
      let (k, short, passes) = any_place xs (subst (λ b. (b || list_any test xs) ≡ true) off there) in
      (suc k, omega arith, passes))
      (cases_Bool (test x))

  pub any_default : (xs : List X) → list_any test xs ≡ true → (d : X) × (d ≡ d)
  any_default [] there = absurd (false≢true there)
  any_default (x ∷ xs) there = (x, refl)

  pub none_any : (xs : List X) (d : X) → ((k : ℕ) → k < length xs → test (get_or xs k d) ≡ false) → list_any test xs ≡ false
  none_any xs d none =
      ⊎_elim
      (λ there. let (k, short, passes) = any_place xs there in absurd (false≢true (sym (none k short) ∙ passes d)))
      (λ off. off)
      (cases_Bool (list_any test xs))

and_left : (a b : Bool) → (a && b) ≡ true → a ≡ true
and_left true b both = refl
and_left false b both = absurd (false≢true both)

and_off : (a b : Bool) → b ≡ false → (a && b) ≡ false
and_off true b off = off
and_off false b off = refl

-- the place that a search answers
abbrev pub place_in : Result ℕ ℕ → Option ℕ
place_in (Ok place) = Some place
place_in (Err place) = None

apart_from : (o : Ordering) → (o ≡ Less) ⊎ (o ≡ Greater) → is_eq o ≡ false
apart_from o apart = ⊎_elim (λ less. ap is_eq less) (λ more. ap is_eq more) apart

module _ {X : Type 0} (key : X → List ℕ) (name : List ℕ) where
  abbrev has_key : X → Bool
  has_key x = is_text name (key x)

  pub found_at : (xs : List X) → IsStrictlySortedBy cmp (map key xs) → (i : ℕ) (d : X) → i < length xs → key (get_or xs i d) ≡ name → position has_key xs ≡ Some i
  found_at xs rising i d short is =
      position_some has_key xs i d short (text_same name (key (get_or xs i d)) (sym is)) (λ k before.
      other_text name (key (get_or xs k d)) (λ same.
      let tied : k ≡ i = one_place key xs rising k i d (omega arith) short (sym same ∙ sym is) in
      absurd (omega (arith, tied, before))))

  -- a binary search by names gives the place
  pub searched : (xs : List X) → IsStrictlySortedBy cmp (map key xs) → (r : Result ℕ ℕ) → IsSearchInRange r (length xs) → IsBinarySearchResult (λ x. cmp (key x) name) xs r → place_in r ≡ position has_key xs
  searched [] rising (Ok i) short found = absurd (omega (arith, short))
  searched (x ∷ xs) rising (Ok i) short found = sym (found_at (x ∷ xs) rising i x short (same_by (key (get_or (x ∷ xs) i x)) name (found x)))
  searched [] rising (Err i) short found = refl
  searched (x ∷ xs) rising (Err i) short found =
      let parts = found (searchable_from_sorted nat_list_cmp_total key (x ∷ xs) name (sorted_by_key key (x ∷ xs) rising)) in
      sym (position_none has_key (x ∷ xs) x (λ k inside.
      let y : X = get_or (x ∷ xs) k x in
      other_text name (key y) (λ same.
      apart_by (key y) name
      (⊎_elim
      (λ before. ap is_eq (parts.0 k x (omega arith) before))
      (λ behind. ap is_eq (parts.1 k x behind inside))
      (cases_lt k i)) (sym same))))

  -- one of this name stands among them where it has a place
  pub among : (xs : List X) → list_any has_key xs ≡ is_some (position has_key xs)
  among xs = any_is_place has_key xs

  module _ (host : X → Bool) where
    abbrev is_target_at : X → Bool
    is_target_at x = has_key x && not (host x)

    -- none of this name is no host where none is there, and where a host is
    pub target_none : (xs : List X) → position has_key xs ≡ None → list_any is_target_at xs ≡ false
    target_none xs none =
        ⊎_elim
        (λ there.
        let (k, short, passes) = any_place is_target_at xs there in
        let (d, in_place) = any_default is_target_at xs there in
        absurd (false≢true (ap is_some (sym none) ∙ (sym (among xs) ∙ place_any has_key xs k d short (and_left (has_key (get_or xs k d)) (not (host (get_or xs k d))) (passes d))))))
        (λ off. off)
        (cases_Bool (list_any is_target_at xs))

    pub target_some : (xs : List X) → IsStrictlySortedBy cmp (map key xs) → (i : ℕ) (d : X) → position has_key xs ≡ Some i → list_any is_target_at xs ≡ not (host (get_or xs i d))
    target_some xs rising i d is =
        let at = position-Some has_key xs i d is in
        ⊎_elim
        (λ a_host.
        none_any is_target_at xs d (λ k short.
        ⊎_elim
        (λ same.
        let tied : k ≡ i = one_place key xs rising k i d short at.0 (sym (same_text name (key (get_or xs k d)) same) ∙ same_text name (key (get_or xs i d)) at.1) in
        subst (λ j. (has_key (get_or xs j d) && not (host (get_or xs j d))) ≡ false) (sym tied) (and_off (has_key (get_or xs i d)) (not (host (get_or xs i d))) (ap not a_host)))
        (λ other. ap (λ b. b && not (host (get_or xs k d))) other)
        (cases_Bool (has_key (get_or xs k d)))) ∙ sym (ap not a_host))
        (λ no_host.
        place_any is_target_at xs i d at.0 (ap (λ b. b && not (host (get_or xs i d))) at.1 ∙ ap not no_host) ∙ sym (ap not no_host))
        (cases_Bool (host (get_or xs i d)))
