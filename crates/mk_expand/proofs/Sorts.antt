-- What `sorted_with` makes rises, and has the words that were given.
use Rattle.std.proofs.Common.{List, [], ◌∷◌, ◌≡◌, ◌⊎◌, inl, inr, refl, sym, ap, subst, ◌∙◌, ℕ, Ordering, Less, Equal, Greater, All, Contains, suc, ◌+◌, ◌<◌, length, get_or, drop, map, arith}
use Rattle.std.proofs.Math.Seq.{drop-cons}
use Rattle.std.specs.List.{AllByRecursion}
use Rattle.std.specs.List.Sorted.{IsStrictlySortedBy}
use Rattle.std.specs.Cmp.{IsTotalOrder}
use Rattle.std.specs.Cmp.Lexicographic.{slice_cmp, nat_list_cmp_total}
use Rattle.std.specs.Ordering.{nat_cmp, ordering_reverse, match_ordering}
use Rattle.std.specs.FinMap.{IsAntisymmetric, nat_cmp-IsAntisymmetric, slice_cmp-IsAntisymmetric}
use Rattle.std.specs.BTreeSet.{insert_key}
use Rattle.std.proofs.lemmas.List.Elements.{All-from_recursion, recursion_from_All, All-contains, All-contains_itself, All-weaker, All-cons, All-nil, Contains-append_left, Contains-append_right, Contains-append_cases, Contains-push}
use Rattle.std.proofs.lemmas.Map.Views.{All-insert_key}
use Rattle.mk_expand.specs.Lists.{sorted_with, IsSortOf}

module _ {K : Type 0} {R : K → K → Ordering} (o : IsTotalOrder R) (same : IsAntisymmetric R) where
  below_all : (k x : K) (xs : List K) → R k x ≡ Less → AllByRecursion (λ y. R x y ≡ Less) xs → AllByRecursion (λ y. R k y ≡ Less) xs
  below_all k x [] below all = tt
  below_all k x (y ∷ xs) below all = (o.trans k x y below all.0, below_all k x xs below all.1)

  above_all : (k x : K) (xs : List K) → R k x ≡ Greater → AllByRecursion (λ y. R x y ≡ Less) xs → AllByRecursion (λ y. R x y ≡ Less) (insert_key R xs k)
  above_all k x xs above all =
      recursion_from_All (λ y. R x y ≡ Less) (insert_key R xs k)
      (All-insert_key R k (λ y. R x y ≡ Less) xs (All-from_recursion (λ y. R x y ≡ Less) xs all) (o.antisymm x k ∙ ap ordering_reverse above))

  -- an ordered list with one more key is ordered
  rises_with : (ks : List K) (k : K) → IsStrictlySortedBy R ks → IsStrictlySortedBy R (insert_key R ks k)
  unfolding IsStrictlySortedBy
  rises_with [] k rises = (tt, tt)
  rises_with (x ∷ xs) k rises =
      elim (R k x) as (λ r. R k x ≡ r → IsStrictlySortedBy R (match_ordering r (k ∷ x ∷ xs) (x ∷ xs) (x ∷ insert_key R xs k))) [
        | Less ↦ λ e. ((e, below_all k x xs e rises.0), rises)
        | Equal ↦ λ e. rises
        | Greater ↦ λ e. (above_all k x xs e rises.0, rises_with xs k rises.1)
      ] refl

  -- a key stays where another comes
  kept : (ks : List K) (k q : K) → Contains ks q → Contains (insert_key R ks k) q
  kept [] k q here = Contains-append_left [] (k ∷ []) q here
  kept (x ∷ xs) k q here =
      elim (R k x) as (λ r. Contains (match_ordering r (k ∷ x ∷ xs) (x ∷ xs) (x ∷ insert_key R xs k)) q) [
        | Less ↦ Contains-append_right (k ∷ []) (x ∷ xs) q here
        | Equal ↦ here
        | Greater ↦ elim (Contains-append_cases (x ∷ []) xs q here) [
          | inl first ↦ Contains-append_left (x ∷ []) (insert_key R xs k) q first
          | inr later ↦ Contains-append_right (x ∷ []) (insert_key R xs k) q (kept xs k q later)
        ]
      ]

  -- the key that comes is there
  added : (ks : List K) (k : K) → Contains (insert_key R ks k) k
  added [] k = Contains-push [] k
  added (x ∷ xs) k =
      elim (R k x) as (λ r. R k x ≡ r → Contains (match_ordering r (k ∷ x ∷ xs) (x ∷ xs) (x ∷ insert_key R xs k)) k) [
        | Less ↦ λ e. Contains-append_left (k ∷ []) (x ∷ xs) k (Contains-push [] k)
        | Equal ↦ λ e. subst (λ y. Contains (y ∷ xs) k) (same k x e) (Contains-append_left (k ∷ []) xs k (Contains-push [] k))
        | Greater ↦ λ e. Contains-append_right (x ∷ []) (insert_key R xs k) k (added xs k)
      ] refl

  -- no other key comes
  only : (ks : List K) (k q : K) → Contains (insert_key R ks k) q → Contains ks q ⊎ (q ≡ k)
  only ks k q there =
      let Known : K → Type 0 = λ y. Contains ks y ⊎ (y ≡ k) in
      let all : All Known ks = All-weaker (Contains ks) Known (λ y here. inl here) ks (All-contains_itself ks) in
      All-contains Known (insert_key R ks k) q (All-insert_key R k Known ks all (inr refl)) there

text_same : IsAntisymmetric (slice_cmp nat_cmp)
text_same = slice_cmp-IsAntisymmetric nat_cmp-IsAntisymmetric

-- the only word of a list of one
alone : (word q : List ℕ) → Contains (word ∷ []) q → q ≡ word
alone word q = All-contains (λ y. y ≡ word) (word ∷ []) q (All-cons (λ y. y ≡ word) word [] refl (All-nil (λ y. y ≡ word)))

-- with each word the list stays in order
rises : (found words : List (List ℕ)) → IsStrictlySortedBy (slice_cmp nat_cmp) found → IsStrictlySortedBy (slice_cmp nat_cmp) (sorted_with found words)
rises found [] order = order
rises found (word ∷ words) order = rises (insert_key (slice_cmp nat_cmp) found word) words (rises_with nat_list_cmp_total text_same found word order)

-- each word that was found or given is there
has : (found words : List (List ℕ)) (q : List ℕ) → Contains found q ⊎ Contains words q → Contains (sorted_with found words) q
has found [] q (inl here) = here
has found [] q (inr (place, low, is)) = absurd (omega arith)
has found (word ∷ words) q (inl here) = has (insert_key (slice_cmp nat_cmp) found word) words q (inl (kept nat_list_cmp_total text_same found word q here))
has found (word ∷ words) q (inr there) =
    elim (Contains-append_cases (word ∷ []) words q there) [
      | inl first ↦
          has (insert_key (slice_cmp nat_cmp) found word) words q
          (inl (subst (Contains (insert_key (slice_cmp nat_cmp) found word)) (sym (alone word q first)) (added nat_list_cmp_total text_same found word)))
      | inr later ↦ has (insert_key (slice_cmp nat_cmp) found word) words q (inr later)
    ]

-- and no other
had : (found words : List (List ℕ)) (q : List ℕ) → Contains (sorted_with found words) q → Contains found q ⊎ Contains words q
had found [] q here = inl here
had found (word ∷ words) q there =
    elim (had (insert_key (slice_cmp nat_cmp) found word) words q there) [
      | inl early ↦ elim (only nat_list_cmp_total text_same found word q early) [
        | inl here ↦ inl here
        | inr is ↦ inr (Contains-append_left (word ∷ []) words q (subst (Contains (word ∷ [])) (sym is) (Contains-push [] word)))
      ]
      | inr later ↦ inr (Contains-append_right (word ∷ []) words q later)
    ]

pub sort_of : (words : List (List ℕ)) → IsSortOf (sorted_with [] words) words
unfolding IsStrictlySortedBy
sort_of words = record {
  rises = rises [] words tt;
  same = λ word. (
    (λ there. elim (had [] words word there) [ inl (place, low, is) ↦ absurd (omega arith) | inr given ↦ given ]),
    (λ given. has [] words word (inr given)),
  );
}

-- words among keys that are seen as texts
module _ {X : Type 0} (shown : X → List ℕ) where
  insert_key-map : (keys : List X) (k : X) → map shown (insert_key (λ a b. slice_cmp nat_cmp (shown a) (shown b)) keys k) ≡ insert_key (slice_cmp nat_cmp) (map shown keys) (shown k)
  insert_key-map [] k = refl
  insert_key-map (x ∷ keys) k =
      elim (slice_cmp nat_cmp (shown k) (shown x)) as (λ r. map shown (match_ordering r (k ∷ x ∷ keys) (x ∷ keys) (x ∷ insert_key (λ a b. slice_cmp nat_cmp (shown a) (shown b)) keys k)) ≡ match_ordering r (shown k ∷ shown x ∷ map shown keys) (shown x ∷ map shown keys) (shown x ∷ insert_key (slice_cmp nat_cmp) (map shown keys) (shown k)))
      [ Less ↦ refl | Equal ↦ refl | Greater ↦ ap (λ ks. shown x ∷ ks) (insert_key-map keys k) ]

  -- one more word of a list comes among the keys
  pub sorted_on : (keys new words : List X) (place : ℕ) (word : X) → place < length words → new ≡ insert_key (λ a b. slice_cmp nat_cmp (shown a) (shown b)) keys (get_or words place word) →
      sorted_with (map shown keys) (map shown (drop place words)) ≡ sorted_with (map shown new) (map shown (drop (place + 1) words))
  sorted_on keys new words place word low is =
      ap (λ ws. sorted_with (map shown keys) (map shown ws)) (drop-cons words place word low)
      ∙ (ap (λ ks. sorted_with ks (map shown (drop (suc place) words))) (sym (ap (map shown) is ∙ insert_key-map keys (get_or words place word)))
      ∙ ap (λ n. sorted_with (map shown new) (map shown (drop n words))) (let e : suc place ≡ place + 1 = omega arith in e))
