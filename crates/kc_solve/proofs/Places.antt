-- Symbols by their places.
use Rattle.std.proofs.Common.{ℕ, zero, suc, ◌+◌, ◌≡◌, ◌<◌, Bool, true, false, cond, not, ◌||◌, List, [], ◌∷◌, length, map, get_or, find, Option, Some, None, Ordering, Less, Equal, Greater, refl, sym, ap, subst, ◌∙◌, inl, inr, ⊎_elim, arith}
use Rattle.std.specs.List.{list_any, IsDistinct, position_or_len}
use Rattle.std.specs.List.Sorted.{IsSorted, IsStrictlySortedBy}
use Rattle.std.specs.Cmp.Lexicographic.{slice_cmp, nat_list_cmp_total, texts_ties}
use Rattle.std.specs.Ordering.{nat_cmp, is_lt, is_le, is_eq, ordering_reverse}
use Rattle.std.proofs.lemmas.Bool.{cases_Bool, cases_lt, cases_eq, eq-eqb, ne_eqb, lt-ltb, or_left, or_right, false≢true, true≢false}
use Rattle.std.proofs.lemmas.List.{get_or-map, length-map}
use Rattle.std.proofs.lemmas.List.Quantifiers.{position-Some}
use Rattle.std.proofs.lemmas.Map.Keys.{Less-from_sorted, apart_from_distinct, sorted_from_all_adjacent, sorted_tail}
use Rattle.br_path.specs.Text.{is_text}
use Rattle.kc_equations.specs.Faults.{IsLeast}
use Rattle.kc_equations.proofs.Texts.{same_text, is_text-self}
use Rattle.kc_solve.specs.Symbols.{symbol_at, place_of}
use Rattle.kc_solve.proofs.Rows.{is_at}

abbrev cmp : List ℕ → List ℕ → Ordering
cmp = slice_cmp nat_cmp

-- ---- sorted and apart is rising

below : (o p : Ordering) → o ≡ ordering_reverse p → is_lt p ≡ false → is_eq o ≡ false → o ≡ Less
below Less p back up apart = refl
below Equal p back up apart = absurd (true≢false apart)
below Greater Less back up apart = absurd (true≢false up)
below Greater Equal back up apart = absurd (cc)
below Greater Greater back up apart = absurd (cc)

pub sorted_texts : {K : Type 0} (shown : K → List ℕ) (keys : List K) → IsSorted (λ a b. cmp (shown a) (shown b)) keys → IsDistinct (λ a b. is_text (shown a) (shown b)) keys → IsStrictlySortedBy cmp (map shown keys)
sorted_texts shown [] sorted apart = sorted_from_all_adjacent nat_list_cmp_total [] [] (λ k short. absurd (omega (arith, short)))
sorted_texts shown (key ∷ keys) sorted apart =
    sorted_from_all_adjacent nat_list_cmp_total (map shown (key ∷ keys)) [] (λ k short.
    let inside : k + 1 < length (key ∷ keys) = omega (arith, short, length-map (key ∷ keys) shown) in
    let here : get_or (map shown (key ∷ keys)) k [] ≡ shown (get_or (key ∷ keys) k key) = get_or-map shown (key ∷ keys) k key [] (omega arith) in
    let next : get_or (map shown (key ∷ keys)) (k + 1) [] ≡ shown (get_or (key ∷ keys) (k + 1) key) = get_or-map shown (key ∷ keys) (k + 1) key [] inside in
    let a : List ℕ = shown (get_or (key ∷ keys) k key) in
    let b : List ℕ = shown (get_or (key ∷ keys) (k + 1) key) in
    let up : is_lt (cmp b a) ≡ false = sorted k key (omega arith) inside in
    let other : is_text a b ≡ false = apart_from_distinct (λ x y. is_text (shown x) (shown y)) (key ∷ keys) k (k + 1) key apart (omega arith) inside in
    rw (here, next) (below (cmp a b) (cmp b a) (nat_list_cmp_total.antisymm a b) up (sym (texts_ties a b) ∙ other)))

-- ---- places

-- a symbol that is found stands at its place
pub place_is : (symbols : List (List ℕ)) (s : List ℕ) (place : ℕ) → place_of symbols s ≡ Some place → (place < length symbols) × (symbol_at symbols place ≡ s)
place_is symbols s place is =
    let found = position-Some (is_text s) symbols place [] is in
    (found.0, sym (same_text s (symbol_at symbols place) found.1))

first_there : (test : List ℕ → Bool) (symbols : List (List ℕ)) → list_any test symbols ≡ true → position_or_len test symbols < length symbols
first_there test [] there = absurd (false≢true there)
first_there test (t ∷ symbols) there =
    (elim (test t) as (λ b. (b || list_any test symbols) ≡ true → cond (not b) (1 + position_or_len test symbols) 0 < length (t ∷ symbols)) [
      | true ↦ λ _. omega arith
      | false ↦ λ more. let rest : position_or_len test symbols < length symbols = first_there test symbols more in omega arith
    ]) there

-- a symbol that stands among them is found
pub place_there : (symbols : List (List ℕ)) (s : List ℕ) → list_any (is_text s) symbols ≡ true → (place : ℕ) × (place_of symbols s ≡ Some place)
place_there symbols s there =
    let first : ℕ = position_or_len (is_text s) symbols in
    (first, ap (λ b. cond b (Some first) None) (lt-ltb first (length symbols) (first_there (is_text s) symbols there)))

pub symbol_among : (symbols : List (List ℕ)) (place : ℕ) → place < length symbols → list_any (is_text (symbol_at symbols place)) symbols ≡ true
symbol_among [] place short = absurd (omega (arith, short))
symbol_among (t ∷ symbols) zero short = or_left (is_text t t) (list_any (is_text t) symbols) (is_text-self t)
symbol_among (t ∷ symbols) (suc place) short = or_right (is_text (symbol_at symbols place) t) (list_any (is_text (symbol_at symbols place)) symbols) (symbol_among symbols place (omega arith))

less_apart : (s : List ℕ) → cmp s s ≡ Less → ⊥
less_apart s less = true≢false (sym (is_text-self s) ∙ (texts_ties s s ∙ ap is_eq less))

-- no symbol has two places
pub one_place : (symbols : List (List ℕ)) → IsStrictlySortedBy cmp symbols → (i j : ℕ) → i < length symbols → j < length symbols → symbol_at symbols i ≡ symbol_at symbols j → i ≡ j
one_place symbols rising i j first second same =
    elim (cases_eq i j) [
      | inl is ↦ is
      | inr apart ↦ elim (cases_lt i j) [
        | inl less ↦ absurd (less_apart (symbol_at symbols j) (subst (λ s. cmp s (symbol_at symbols j) ≡ Less) same (Less-from_sorted cmp symbols i j [] rising less second)))
        | inr more ↦ absurd (less_apart (symbol_at symbols i) (subst (λ s. cmp s (symbol_at symbols i) ≡ Less) (sym same) (Less-from_sorted cmp symbols j i [] rising (omega (arith, apart)) first)))
      ]
    ]

-- the place of the symbol at a place
pub place_at : (symbols : List (List ℕ)) → IsStrictlySortedBy cmp symbols → (place : ℕ) → place < length symbols → place_of symbols (symbol_at symbols place) ≡ Some place
place_at symbols rising place short =
    let (other, found) = place_there symbols (symbol_at symbols place) (symbol_among symbols place short) in
    let at = place_is symbols (symbol_at symbols place) other found in
    found ∙ ap Some (one_place symbols rising other place at.0 short at.1)

-- whether a symbol has a place
pub is_placed : (symbols : List (List ℕ)) → IsStrictlySortedBy cmp symbols → (s : List ℕ) (place : ℕ) → place < length symbols → is_at place (place_of symbols s) ≡ is_text s (symbol_at symbols place)
is_placed symbols rising s place short = by (place_of symbols s) refl
  where
    by : (o : Option ℕ) → place_of symbols s ≡ o → is_at place o ≡ is_text s (symbol_at symbols place)
    by None none =
        ⊎_elim
        (λ same.
        let found = place_at symbols rising place short in
        let at : place_of symbols s ≡ Some place = ap (place_of symbols) (same_text s (symbol_at symbols place) same) ∙ found in
        absurd (cc))
        (λ apart. sym apart)
        (cases_Bool (is_text s (symbol_at symbols place)))
    by (Some other) found =
        let at = place_is symbols s other found in
        elim (cases_eq other place) [
          | inl is ↦ eq-eqb other place is ∙ sym (subst (λ p. is_text s (symbol_at symbols p) ≡ true) is (subst (λ t. is_text s t ≡ true) (sym at.1) (is_text-self s)))
          | inr apart ↦
              ne_eqb other place apart
              ∙ ⊎_elim
              (λ same. absurd (apart (one_place symbols rising other place at.0 short (at.1 ∙ same_text s (symbol_at symbols place) same))))
              (λ off. sym off)
              (cases_Bool (is_text s (symbol_at symbols place)))
        ]

-- ---- the first of rising symbols is the least

pub le_from_less : (o : Ordering) → o ≡ Less → is_le o ≡ true
le_from_less Less is = refl
le_from_less Equal is = absurd (cc)
le_from_less Greater is = absurd (cc)

pub le_self : (s : List ℕ) → is_le (cmp s s) ≡ true
le_self s = by (cmp s s) (sym (texts_ties s s) ∙ is_text-self s)
  where
    by : (o : Ordering) → is_eq o ≡ true → is_le o ≡ true
    by Less is = refl
    by Equal is = refl
    by Greater is = absurd (false≢true is)

head_below : (t : List ℕ) (symbols : List (List ℕ)) → IsStrictlySortedBy cmp (t ∷ symbols) → (s : List ℕ) → list_any (is_text s) symbols ≡ true → is_le (cmp t s) ≡ true
head_below t symbols rising s there =
    let (place, found) = place_there symbols s there in
    let at = place_is symbols s place found in
    le_from_less (cmp t s) (subst (λ u. cmp t u ≡ Less) at.1 (Less-from_sorted cmp (t ∷ symbols) 0 (suc place) [] rising (omega arith) (omega (arith, at.0))))

module _ (test : List ℕ → Bool) where
  -- where none of the symbols passes, none does that must be one of them
  pub none_found : (symbols : List (List ℕ)) → find test symbols ≡ None → (s : List ℕ) → list_any (is_text s) symbols ≡ true → test s ≡ false
  none_found [] none s there = absurd (false≢true there)
  none_found (t ∷ symbols) none s there =
      ⊎_elim
      (λ passes. absurd (let made : Some t ≡ None = subst (λ b. cond b (Some t) (find test symbols) ≡ None) passes none in cc))
      (λ fails.
      let rest : find test symbols ≡ None = subst (λ b. cond b (Some t) (find test symbols) ≡ None) fails none in
      ⊎_elim
      (λ same. ap test (same_text s t same) ∙ fails)
      (λ apart. none_found symbols rest s (subst (λ b. (b || list_any (is_text s) symbols) ≡ true) apart there))
      (cases_Bool (is_text s t)))
      (cases_Bool (test t))

  pub least_found : (symbols : List (List ℕ)) → IsStrictlySortedBy cmp symbols → (least : List ℕ) → find test symbols ≡ Some least → (test least ≡ true) × ((s : List ℕ) → list_any (is_text s) symbols ≡ true → test s ≡ true → is_le (cmp least s) ≡ true)
  least_found [] rising least found = absurd (cc)
  least_found (t ∷ symbols) rising least found =
      ⊎_elim
      (λ passes.
      let made : Some t ≡ Some least = subst (λ b. cond b (Some t) (find test symbols) ≡ Some least) passes found in
      let same : t ≡ least = cc (made) in
      subst (λ l. (test l ≡ true) × ((s : List ℕ) → list_any (is_text s) (t ∷ symbols) ≡ true → test s ≡ true → is_le (cmp l s) ≡ true)) same (
        passes,
        λ s there good.
            ⊎_elim
            (λ here. subst (λ u. is_le (cmp t u) ≡ true) (sym (same_text s t here)) (le_self t))
            (λ apart. head_below t symbols rising s (subst (λ b. (b || list_any (is_text s) symbols) ≡ true) apart there))
            (cases_Bool (is_text s t)),
      ))
      (λ fails.
      let rest = least_found symbols (sorted_tail cmp t symbols rising) least (subst (λ b. cond b (Some t) (find test symbols) ≡ Some least) fails found) in (
        rest.0,
        λ s there good.
            ⊎_elim
            (λ here. absurd (true≢false (sym good ∙ (ap test (same_text s t here) ∙ fails))))
            (λ apart. rest.1 s (subst (λ b. (b || list_any (is_text s) symbols) ≡ true) apart there) good)
            (cases_Bool (is_text s t)),
      ))
      (cases_Bool (test t))

  -- where what passes must be one of them, the first is the least of all
  pub least_of : (symbols : List (List ℕ)) → IsStrictlySortedBy cmp symbols → ((s : List ℕ) → test s ≡ true → list_any (is_text s) symbols ≡ true) → (least : List ℕ) → find test symbols ≡ Some least → IsLeast (λ s. test s ≡ true) least
  least_of symbols rising among least found =
      let is = least_found symbols rising least found in
      record { holds = is.0; below = λ s passes. is.1 s (among s passes) passes }

  pub none_of : (symbols : List (List ℕ)) → ((s : List ℕ) → test s ≡ true → list_any (is_text s) symbols ≡ true) → find test symbols ≡ None → (s : List ℕ) → test s ≡ false
  none_of symbols among none s =
      ⊎_elim
      (λ passes. none_found symbols none s (among s passes))
      (λ fails. fails)
      (cases_Bool (test s))
