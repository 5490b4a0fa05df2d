-- Walks in the graph of packages are chains of lists.
use Rattle.std.proofs.Common.{ℕ, zero, suc, ◌+◌, ◌≡◌, ◌<◌, ◌↔◌, ◌⊎◌, Bool, true, false, cond, ◌||◌, eqb, List, [], ◌∷◌, ◌++◌, length, map, get_or, Option, Some, None, option_map, slice_get, is_some, refl, sym, ap, subst, ◌∙◌, inl, inr, arith}
use Rattle.std.specs.Cmp.Lexicographic.{nat_list_eq_equiv}
use Rattle.std.specs.List.{list_any, Contains}
use Rattle.std.specs.List.Sorted.{IsStrictlySortedBy}
use Rattle.std.specs.Option.{option_map_or}
use Rattle.std.proofs.lemmas.Bool.{cases_Bool, eqb-true, eq-eqb, false≢true, or_left, or_right}
use Rattle.std.proofs.lemmas.List.Folds.{list_any-append}
use Rattle.std.proofs.lemmas.List.Quantifiers.{position-Some}
use Rattle.std.proofs.lemmas.Map.Views.{list_any-from_Contains, Contains-from_any}
use Rattle.std.proofs.lemmas.Option.{cond_some, get_or_from_slice_get, slice_get-get_or, slice_get_within, slice_get-map, same_Some, none-some}
use Rattle.cycle_walks.specs.Graph.{Rows, row, is_in, names}
use Rattle.cycle_walks.specs.Walks.{IsWalk, Reaches}
use Rattle.cycle_walks.proofs.Cycles.{Reaches-step}
use Rattle.kc_values.specs.Values.{Table as Values}
use Rattle.br_path.specs.Text.{is_text}
use Rattle.recipe_set.specs.declared.packages.Made.{Made}
use Rattle.selection.specs.declared.listed.Listed.{Listed}
use Rattle.selection.specs.Chains.{place_of, if_host, host_place, host_places, listed, asked_place, asked_places, ArePlaces}
use Rattle.selection.specs.Names.{is_asked}
use Rattle.selection.specs.Selected.{IsSelected, asked, needed, listed_by}
use Rattle.selection.proofs.PlaceLaws.{found_at}
use Rattle.selection.proofs.TextLaws.{cmp, same_text, text_same}

-- ---- elements at places

module _ {X : Type 0} (xs : List X) where
  pub place_within : (x : X) → Contains xs x → (k : ℕ) × (slice_get xs k ≡ Some x)
  place_within x (k, short, is) = (k, slice_get-get_or xs k x short ∙ ap Some is)

  pub within_place : (x : X) (k : ℕ) → slice_get xs k ≡ Some x → Contains xs x
  within_place x k is = (k, slice_get_within xs k x is, get_or_from_slice_get xs k x x is)

has_word : (word : List ℕ) (words : List (List ℕ)) → Contains words word → list_any (is_text word) words ≡ true
has_word word words there = list_any-from_Contains nat_list_eq_equiv word words there

word_from : (word : List ℕ) (words : List (List ℕ)) → list_any (is_text word) words ≡ true → Contains words word
word_from word words there = Contains-from_any same_text word words there

some_of : (o : Option Made) → option_map_or (λ one. one.host) o false ≡ true → is_some o ≡ true
some_of None is = is
some_of (Some one) is = refl

pub some_at : {X : Type 0} (xs : List X) (i : ℕ) → i < length xs → (x : X) × (slice_get xs i ≡ Some x)
some_at [] i short = absurd (omega (arith, short))
some_at (x ∷ xs) i short = (get_or (x ∷ xs) i x, slice_get-get_or (x ∷ xs) i x short)

-- ---- rows

in_listed : (found : Option ℕ) (q : ℕ) → is_in (listed found) q ≡ true → found ≡ Some q
in_listed None q there = absurd (false≢true there)
in_listed (Some p) q there =
    elim (cases_Bool (eqb q p)) [
      | inl same ↦ ap Some (sym (eqb-true q p same))
      | inr other ↦ absurd (false≢true (subst (λ b. (b || false) ≡ true) other there))
    ]

listed_in : (q : ℕ) → is_in (listed (Some q)) q ≡ true
listed_in q = or_left (eqb q q) false (eq-eqb q q refl)

or_cases : (a b : Bool) → (a || b) ≡ true → (a ≡ true) ⊎ (b ≡ true)
or_cases true b there = inl refl
or_cases false b there = inr there

some_if : (b : Bool) (p : ℕ) → b ≡ true → cond b (Some p) None ≡ Some p
some_if b p is = ap (λ c. cond c (Some p) None) is

module _ (values : Values) where
  in_asked : (place : ℕ) (one : Made) (made : List Made) (q : ℕ) → is_in (asked_places values place (one ∷ made)) q ≡ (is_in (listed (asked_place values place one)) q || is_in (asked_places values (place + 1) made) q)
  in_asked place one made q = list_any-append (λ other. eqb q other) (listed (asked_place values place one)) (asked_places values (place + 1) made)

  asked_from : (place : ℕ) (made : List Made) (q : ℕ) → is_in (asked_places values place made) q ≡ true → (i : ℕ) × (one : Made) × (q ≡ place + i) × (slice_get made i ≡ Some one) × (is_asked values one.name ≡ true)
  asked_from place [] q there = absurd (false≢true there)
  asked_from place (one ∷ made) q there =
      elim (or_cases (is_in (listed (asked_place values place one)) q) (is_in (asked_places values (place + 1) made) q) (sym (in_asked place one made q) ∙ there)) [
        | inl here ↦
            let found = cond_some (is_asked values one.name) place q (in_listed (asked_place values place one) q here) in
            let is : place ≡ q = found.1 in
            (zero, one, omega (arith, is), refl, found.0)
        | inr later ↦
            let (i, other, is, at, y) = asked_from (place + 1) made q later in
            (suc i, other, omega (arith, is), at, y)
      ]

  asked_in : (place : ℕ) (made : List Made) (i q : ℕ) (one : Made) → q ≡ place + i → slice_get made i ≡ Some one → is_asked values one.name ≡ true → is_in (asked_places values place made) q ≡ true
  asked_in place [] i q one is at y = absurd (none-some one at)
  asked_in place (first ∷ made) zero q one is at y =
      let same : first ≡ one = same_Some first one at in
      let here : asked_place values place first ≡ Some q =
      some_if (is_asked values first.name) place (subst (λ m. is_asked values m.name ≡ true) (sym same) y) ∙ ap Some (let e : place ≡ q = omega (arith, is) in e) in
      in_asked place first made q ∙ or_left (is_in (listed (asked_place values place first)) q) (is_in (asked_places values (place + 1) made) q) (subst (λ f. is_in (listed f) q ≡ true) (sym here) (listed_in q))
  asked_in place (first ∷ made) (suc i) q one is at y =
      in_asked place first made q
      ∙ or_right (is_in (listed (asked_place values place first)) q) (is_in (asked_places values (place + 1) made) q) (asked_in (place + 1) made i q one (omega (arith, is)) at y)

module _ (made : List Made) where
  in_hosts : (name : List ℕ) (names : List (List ℕ)) (q : ℕ) → is_in (host_places made (name ∷ names)) q ≡ (is_in (listed (host_place made name)) q || is_in (host_places made names) q)
  in_hosts name names q = list_any-append (λ other. eqb q other) (listed (host_place made name)) (host_places made names)

  hosts_from : (names : List (List ℕ)) (q : ℕ) → is_in (host_places made names) q ≡ true → (name : List ℕ) × (list_any (is_text name) names ≡ true) × (host_place made name ≡ Some q)
  hosts_from [] q there = absurd (false≢true there)
  hosts_from (name ∷ names) q there =
      elim (or_cases (is_in (listed (host_place made name)) q) (is_in (host_places made names) q) (sym (in_hosts name names q) ∙ there)) [
        | inl here ↦ (name, or_left (is_text name name) (list_any (is_text name) names) (text_same name name refl), in_listed (host_place made name) q here)
        | inr later ↦
            let (other, among, is) = hosts_from names q later in
            (other, or_right (is_text other name) (list_any (is_text other) names) among, is)
      ]

  hosts_in : (names : List (List ℕ)) (name : List ℕ) (q : ℕ) → list_any (is_text name) names ≡ true → host_place made name ≡ Some q → is_in (host_places made names) q ≡ true
  hosts_in [] name q there is = absurd (false≢true there)
  hosts_in (first ∷ names) name q there is =
      in_hosts first names q
      ∙ elim (or_cases (is_text name first) (list_any (is_text name) names) there) [
        | inl same ↦
            or_left (is_in (listed (host_place made first)) q) (is_in (host_places made names) q)
            (subst (λ f. is_in (listed f) q ≡ true) (sym (subst (λ n. host_place made n ≡ Some q) (same_text name first same) is)) (listed_in q))
        | inr later ↦ or_right (is_in (listed (host_place made first)) q) (is_in (host_places made names) q) (hosts_in names name q later is)
      ]

  if_host_some : (found : Option ℕ) (q : ℕ) → if_host made found ≡ Some q → (found ≡ Some q) × (option_map_or (λ one. one.host) (slice_get made q) false ≡ true)
  if_host_some None q is = absurd (none-some q is)
  if_host_some (Some p) q is =
      let host = cond_some (option_map_or (λ one. one.host) (slice_get made p) false) p q is in
      (ap Some host.1, subst (λ k. option_map_or (λ one. one.host) (slice_get made k) false ≡ true) host.1 host.0)

  -- a place that a list leads to is that of a host package, by its name
  host_at : (name : List ℕ) (q : ℕ) (one : Made) → host_place made name ≡ Some q → slice_get made q ≡ Some one → (one.name ≡ name) × (one.host ≡ true)
  host_at name q one is at =
      let parts = if_host_some (place_of made name) q is in
      let found = position-Some (λ other. is_text name other.name) made q one parts.0 in
      let here : get_or made q one ≡ one = get_or_from_slice_get made q one one at in
      (sym (subst (λ other. name ≡ other.name) here (same_text name (get_or made q one).name found.1)), sym (ap (λ o. option_map_or (λ other. other.host) o false) at) ∙ parts.1)

  host_within : (name : List ℕ) (q : ℕ) → host_place made name ≡ Some q → q < length made
  host_within name q is =
      let parts = if_host_some (place_of made name) q is in
      let some : is_some (slice_get made q) ≡ true = some_of (slice_get made q) parts.1 in
      elim (slice_get made q) as (λ o. slice_get made q ≡ o → q < length made) [
        | None ↦ λ none. absurd (false≢true (sym (ap is_some none) ∙ some))
        | Some one ↦ λ at. slice_get_within made q one at
      ] refl

  place_at : IsStrictlySortedBy cmp (map (λ one. one.name) made) → (q : ℕ) (one : Made) → slice_get made q ≡ Some one → one.host ≡ true → host_place made one.name ≡ Some q
  place_at rising q one at host =
      let here : get_or made q one ≡ one = get_or_from_slice_get made q one one at in
      let found : place_of made one.name ≡ Some q = found_at (λ other. other.name) one.name made rising q one (slice_get_within made q one at) (ap (λ other. other.name) here) in
      ap (if_host made) found ∙ some_if (option_map_or (λ other. other.host) (slice_get made q) false) q (ap (λ o. option_map_or (λ other. other.host) o false) at ∙ host)

-- ---- walks and chains

module _ (all : List Listed) (made : List Made) (same : map (λ item. item.made) all ≡ made) where
  pub made_at : (q : ℕ) (item : Listed) → slice_get all q ≡ Some item → slice_get made q ≡ Some item.made
  made_at q item at = subst (λ m. slice_get m q ≡ Some item.made) same (slice_get-map (λ one. one.made) all q ∙ ap (option_map (λ one. one.made)) at)

  pub item_at : (q : ℕ) (one : Made) → slice_get made q ≡ Some one → (item : Listed) × (slice_get all q ≡ Some item) × (item.made ≡ one)
  item_at q one at =
      elim (slice_get all q) as (λ o. slice_get all q ≡ o → (item : Listed) × (slice_get all q ≡ Some item) × (item.made ≡ one)) [
        | None ↦ λ none. absurd (none-some one (sym (ap (option_map (λ item. item.made)) none) ∙ (sym (slice_get-map (λ item. item.made) all q) ∙ (ap (λ m. slice_get m q) same ∙ at))))
        | Some item ↦ λ is. (item, is, same_Some item.made one (sym (made_at q item is) ∙ at))
      ] refl

module _ (values : Values) (all : List Listed) where
  pub there_from : (item : Listed) → IsSelected values all item → Contains all item
  there_from item (asked one there y) = there
  there_from item (needed one other chosen there host lists) = there

module _ (values : Values) (all : List Listed) (made : List Made) (same : map (λ item. item.made) all ≡ made) (rising : IsStrictlySortedBy cmp (map (λ one. one.name) made))
    (rows : Rows) (asked_row : row rows (length made) ≡ asked_places values 0 made)
    (list_rows : (q : ℕ) (item : Listed) → slice_get all q ≡ Some item → row rows q ≡ host_places made (listed_by item)) where
  -- a package at a place is selected
  abbrev IsChosen : ℕ → Type 0
  IsChosen q = (item : Listed) × (slice_get all q ≡ Some item) × IsSelected values all item

  step_up : (n q : ℕ) → (n ≡ length made) ⊎ IsChosen n → names rows n q ≡ true → IsChosen q
  step_up n q (inl root) step =
      let at_root : is_in (row rows (length made)) q ≡ true = subst (λ k. is_in (row rows k) q ≡ true) root step in
      let (i, one, is, at, y) = asked_from values 0 made q (subst (λ r. is_in r q ≡ true) asked_row at_root) in
      let here : i ≡ q = omega (arith, is) in
      let (item, there, has) = item_at all made same q one (subst (λ k. slice_get made k ≡ Some one) here at) in
      (item, there, asked item (within_place all item q there) (subst (λ m. is_asked values m.name ≡ true) (sym has) y))
  step_up n q (inr (item, at, chosen)) step =
      let (name, among, place) = hosts_from made (listed_by item) q (subst (λ r. is_in r q ≡ true) (list_rows n item at) step) in
      let short : q < length made = host_within made name q place in
      let (one, is) = some_at made q short in
      let parts = host_at made name q one place is in
      let (other, there, has) = item_at all made same q one is in (
        other,
        there,
        needed item other chosen (within_place all other q there) (subst (λ m. m.host ≡ true) (sym has) parts.1)
            (subst (Contains (listed_by item)) (sym parts.0 ∙ ap (λ m. m.name) (sym has)) (word_from name (listed_by item) among)),
      )

  walk_up : (n : ℕ) (between : List ℕ) (q : ℕ) → (n ≡ length made) ⊎ IsChosen n → IsWalk (names rows) n (between ++ q ∷ []) → IsChosen q
  walk_up n [] q from walk = step_up n q from walk.0
  walk_up n (k ∷ between) q from walk = walk_up k between q (inr (step_up n k from walk.0)) walk.1

  walk_down : (item : Listed) → IsSelected values all item → (q : ℕ) → slice_get all q ≡ Some item → Reaches (names rows) (length made) q
  walk_down item (asked one there y) q at =
      let step : names rows (length made) q ≡ true =
      subst (λ r. is_in r q ≡ true) (sym asked_row) (asked_in values 0 made q q one.made (omega arith) (made_at all made same q one at) y) in
      ([], (step, tt))
  walk_down item (needed one other chosen there host lists) q at =
      let (k, first) = place_within all one (there_from values all one chosen) in
      let place : host_place made other.made.name ≡ Some q = place_at made rising q other.made (made_at all made same q other at) host in
      let step : names rows k q ≡ true =
      subst (λ r. is_in r q ≡ true) (sym (list_rows k one first)) (hosts_in made (listed_by one) other.made.name q (has_word other.made.name (listed_by one) lists) place) in
      Reaches-step (names rows) (length made) k q (walk_down one chosen k first) step

  pub are_places : (places : List ℕ) → ((other : ℕ) → Contains places other ↔ Reaches (names rows) (length made) other) → ArePlaces values all places
  are_places places reached = record {
    within = λ q there.
        let (between, walk) = (reached q).0 there in
        let (item, at, chosen) = walk_up (length made) between q (inl refl) walk in
        slice_get_within all q item at;
    selected = λ q item at. (
      λ there.
          let (between, walk) = (reached q).0 there in
          let (other, is, chosen) = walk_up (length made) between q (inl refl) walk in
          subst (IsSelected values all) (same_Some other item (sym is ∙ at)) chosen,
      λ chosen. (reached q).1 (walk_down item chosen q at),
    );
  }
