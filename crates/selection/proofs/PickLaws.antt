-- The packages at places that rise.
use Rattle.std.proofs.Common.{ℕ, zero, suc, ◌+◌, ◌≡◌, ◌<◌, ◌≤◌, true, List, [], ◌∷◌, ◌++◌, length, map, get_or, Option, Some, None, slice_get, option_to_list, IsTrue, refl, sym, ap, subst, ◌∙◌, ap₂, inl, inr, arith}
use Rattle.std.specs.Cmp.Lexicographic.{nat_list_cmp_total}
use Rattle.std.specs.List.{Contains}
use Rattle.std.specs.List.Sorted.{IsStrictlySortedBy, IsStrictlyIncreasing}
use Rattle.std.proofs.lemmas.List.{length-map, get_or-map}
use Rattle.std.proofs.lemmas.List.Elements.{Contains-get_or, Contains-append_cases, Contains-append_left, Contains-append_right}
use Rattle.std.proofs.lemmas.Map.Keys.{sorted_from_all_adjacent, Less-from_sorted}
use Rattle.std.proofs.lemmas.Option.{get_or_from_slice_get}
use Rattle.kc_values.specs.Values.{Table as Values}
use Rattle.br_path.specs.Text.{is_text}
use Rattle.recipe_set.specs.declared.packages.Made.{Made}
use Rattle.selection.specs.declared.listed.Listed.{Listed}
use Rattle.selection.specs.Chains.{ArePlaces, picked}
use Rattle.selection.specs.Selected.{IsSelected, needed, listed_by, names_of, has_name, AreSelected, HaveHosts}
use Rattle.selection.proofs.ChainLaws.{place_within, within_place, there_from, item_at, some_at}
use Rattle.selection.proofs.PlaceLaws.{place_any}
use Rattle.selection.proofs.TextLaws.{cmp, text_same}

module _ (all : List Listed) where
  abbrev pub name_at : ℕ → List ℕ
  name_at q = get_or (names_of all) q []

  here_from : (found : Option Listed) (item : Listed) → Contains (option_to_list found) item → found ≡ Some item
  here_from None item (k, short, is) = absurd (omega (arith, short))
  here_from (Some other) item (zero, short, is) = ap Some is
  here_from (Some other) item (suc k, short, is) = absurd (omega (arith, short))

  here_in : (found : Option Listed) (item : Listed) → found ≡ Some item → Contains (option_to_list found) item
  here_in found item is = subst (λ o. Contains (option_to_list o) item) (sym is) (zero, omega arith, refl)

  pub picked_from : (places : List ℕ) (item : Listed) → Contains (picked all places) item → (q : ℕ) × Contains places q × (slice_get all q ≡ Some item)
  picked_from [] item (k, short, is) = absurd (omega (arith, short))
  picked_from (q ∷ places) item there =
      elim (Contains-append_cases (option_to_list (slice_get all q)) (picked all places) item there) [
        | inl here ↦ (q, (zero, omega arith, refl), here_from (slice_get all q) item here)
        | inr later ↦ let (other, (k, short, is), at) = picked_from places item later in (other, (suc k, omega (arith, short), is), at)
      ]

  pub picked_in : (places : List ℕ) (q : ℕ) (item : Listed) → Contains places q → slice_get all q ≡ Some item → Contains (picked all places) item
  picked_in [] q item (k, short, is) at = absurd (omega (arith, short))
  picked_in (p ∷ places) q item (zero, short, is) at =
      Contains-append_left (option_to_list (slice_get all p)) (picked all places) item (here_in (slice_get all p) item (ap (slice_get all) is ∙ at))
  picked_in (p ∷ places) q item (suc k, short, is) at =
      Contains-append_right (option_to_list (slice_get all p)) (picked all places) item (picked_in places q item (k, omega (arith, short), is) at)

  names_picked : (places : List ℕ) → ((q : ℕ) → Contains places q → q < length all) → names_of (picked all places) ≡ map name_at places
  names_picked [] within = refl
  names_picked (q ∷ places) within =
      let short : q < length all = within q (zero, omega arith, refl) in
      let (item, at) = some_at all q short in
      let here : name_at q ≡ item.made.name = get_or-map (λ one. one.made.name) all q item [] short ∙ ap (λ one. one.made.name) (get_or_from_slice_get all q item item at) in
      let first : names_of (picked all (q ∷ places)) ≡ item.made.name ∷ names_of (picked all places) = ap (λ o. names_of (option_to_list o ++ picked all places)) at in
      first ∙ ap₂ (λ n ns. n ∷ ns) (sym here) (names_picked places (λ p there. within p (later p there)))
    where
      later : (p : ℕ) → Contains places p → Contains (q ∷ places) p
      later p (k, inside, is) = (suc k, omega (arith, inside), is)

  pub names_rise : (places : List ℕ) → IsStrictlySortedBy cmp (names_of all) → IsStrictlyIncreasing places → ((q : ℕ) → Contains places q → q < length all) → IsStrictlySortedBy cmp (names_of (picked all places))
  names_rise places rising up within =
      subst (IsStrictlySortedBy cmp) (sym (names_picked places within))
      (sorted_from_all_adjacent nat_list_cmp_total (map name_at places) [] (λ k short.
      let next : k + 1 < length places = omega (arith, short, length-map places name_at) in
      let p : ℕ = get_or places k 0 in
      let q : ℕ = get_or places (k + 1) 0 in
      let first : get_or (map name_at places) k [] ≡ name_at p = get_or-map name_at places k 0 [] (omega arith) in
      let second : get_or (map name_at places) (k + 1) [] ≡ name_at q = get_or-map name_at places (k + 1) 0 [] next in
      let inside : q < length all = within q (Contains-get_or places (k + 1) 0 next) in
      rw (first, second) (Less-from_sorted cmp (names_of all) p q [] rising (up k next) (omega (arith, inside, length-map all (λ one. one.made.name))))))

module _ (values : Values) (all : List Listed) where
  pub are_selected : (places : List ℕ) → IsStrictlySortedBy cmp (names_of all) → IsStrictlyIncreasing places → ArePlaces values all places → AreSelected values all (picked all places)
  are_selected places rising up are = record {
    rising = names_rise all places rising up are.within;
    selected = λ item. (
      λ there. let (q, among, at) = picked_from all places item there in (are.selected q item at).0 among,
      λ chosen.
          let (q, at) = place_within all item (there_from values all item chosen) in
          picked_in all places q item ((are.selected q item at).1 chosen) at,
    );
  }

  -- one of a name is among them
  pub name_among : (chosen : List Listed) (item : Listed) → Contains chosen item → has_name chosen item.made.name ≡ true
  name_among chosen item (k, short, is) =
      place_any (λ one. is_text item.made.name one.made.name) chosen k item short (text_same item.made.name (get_or chosen k item).made.name (ap (λ one. one.made.name) (sym is)))

  pub have_hosts : (made : List Made) (chosen : List Listed) → map (λ item. item.made) all ≡ made → AreSelected values all chosen → HaveHosts made chosen
  have_hosts made chosen same are item one there among host lists =
      let (k, at) = place_within made one among in
      let (other, is, has) = item_at all made same k one at in
      let picks : IsSelected values all other =
      needed item other ((are.selected item).0 there) (within_place all other k is) (subst (λ m. IsTrue m.host) (sym has) host) (subst (λ m. Contains (listed_by item) m.name) (sym has) lists) in
      subst (λ m. has_name chosen m.name ≡ true) has (name_among chosen other ((are.selected other).1 picks))

-- ---- names that rise

names_of_made : (all : List Listed) → map (λ one. one.name) (map (λ item. item.made) all) ≡ names_of all
names_of_made [] = refl
names_of_made (item ∷ all) = ap (λ names. item.made.name ∷ names) (names_of_made all)

pub all_rise : (all : List Listed) (made : List Made) → map (λ item. item.made) all ≡ made → IsStrictlySortedBy cmp (map (λ one. one.name) made) → IsStrictlySortedBy cmp (names_of all)
all_rise all made same rising = subst (IsStrictlySortedBy cmp) (names_of_made all) (subst (λ m. IsStrictlySortedBy cmp (map (λ one. one.name) m)) (sym same) rising)

-- ---- after the end

pub slice_get_none : {X : Type 0} (xs : List X) (i : ℕ) → length xs ≤ i → slice_get xs i ≡ None
slice_get_none [] i over = refl
slice_get_none (x ∷ xs) zero over = absurd (omega (arith, over))
slice_get_none (x ∷ xs) (suc i) over = slice_get_none xs i (omega (arith, over))
