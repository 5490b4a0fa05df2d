-- Equal texts, and texts that rise.
use Rattle.std.proofs.Common.{ℕ, ◌+◌, ◌≡◌, ◌<◌, true, false, List, [], length, map, get_or, Ordering, Less, Equal, sym, ap, subst, ◌∙◌, ⊎_elim, arith}
use Rattle.std.specs.List.Sorted.{IsSortedBy, IsStrictlySortedBy}
use Rattle.std.specs.Cmp.Lexicographic.{slice_cmp, nat_list_cmp_total, texts_ties}
use Rattle.std.specs.Ordering.{nat_cmp, is_lt, is_eq, ordering_reverse}
use Rattle.std.proofs.lemmas.Bool.{cases_Bool, cases_lt, cases_eq, true≢false}
use Rattle.std.proofs.lemmas.List.{get_or-map, length-map}
use Rattle.std.proofs.lemmas.Map.Keys.{Less-from_sorted}
use Rattle.std.proofs.lemmas.Slice.Eq.{bytes_eq-Decides}
use Rattle.br_path.specs.Text.{is_text}

abbrev pub cmp : List ℕ → List ℕ → Ordering
cmp = slice_cmp nat_cmp

pub same_text : (a b : List ℕ) → is_text a b ≡ true → a ≡ b
same_text a b = (bytes_eq-Decides a b).0

pub text_same : (a b : List ℕ) → a ≡ b → is_text a b ≡ true
text_same a b = (bytes_eq-Decides a b).1

pub other_text : (a b : List ℕ) → (a ≡ b → ⊥) → is_text a b ≡ false
other_text a b apart =
    ⊎_elim
    (λ same. absurd (apart (same_text a b same)))
    (λ other. other)
    (cases_Bool (is_text a b))

-- texts that aren't compared as equal are apart
pub apart_by : (a b : List ℕ) → is_eq (cmp a b) ≡ false → a ≡ b → ⊥
apart_by a b other same = true≢false (sym (text_same a b same) ∙ (texts_ties a b ∙ other))

pub same_by : (a b : List ℕ) → cmp a b ≡ Equal → a ≡ b
same_by a b tied = same_text a b (texts_ties a b ∙ ap is_eq tied)

module _ {X : Type 0} (key : X → List ℕ) (xs : List X) (rising : IsStrictlySortedBy cmp (map key xs)) where
  pub key_below : (i j : ℕ) (d : X) → i < j → j < length xs → cmp (key (get_or xs i d)) (key (get_or xs j d)) ≡ Less
  key_below i j d before short =
      let first : get_or (map key xs) i [] ≡ key (get_or xs i d) = get_or-map key xs i d [] (omega arith) in
      let second : get_or (map key xs) j [] ≡ key (get_or xs j d) = get_or-map key xs j d [] short in
      let within : j < length (map key xs) = omega (arith, short, length-map xs key) in
      let less : cmp (get_or (map key xs) i []) (get_or (map key xs) j []) ≡ Less = Less-from_sorted cmp (map key xs) i j [] rising before within in
      subst (λ k. cmp (key (get_or xs i d)) k ≡ Less) second (subst (λ k. cmp k (get_or (map key xs) j []) ≡ Less) first less)

  pub sorted_by_key : IsSortedBy (λ a b. is_lt (cmp (key a) (key b))) xs
  sorted_by_key k d low short =
      let a : List ℕ = key (get_or xs k d) in
      let b : List ℕ = key (get_or xs (k + 1) d) in
      let less : cmp a b ≡ Less = key_below k (k + 1) d (omega arith) short in
      ap is_lt (nat_list_cmp_total.antisymm b a ∙ ap ordering_reverse less)

  -- no two of them have one key
  pub one_place : (i j : ℕ) (d : X) → i < length xs → j < length xs → key (get_or xs i d) ≡ key (get_or xs j d) → i ≡ j
  one_place i j d first second same =
      ⊎_elim
      (λ is. is)
      (λ apart.
      ⊎_elim
      (λ before. absurd (apart_by (key (get_or xs i d)) (key (get_or xs j d)) (ap is_eq (key_below i j d before second)) same))
      (λ behind. absurd (apart_by (key (get_or xs j d)) (key (get_or xs i d)) (ap is_eq (key_below j i d (omega (arith, behind, apart)) first)) (sym same)))
      (cases_lt i j))
      (cases_eq i j)
