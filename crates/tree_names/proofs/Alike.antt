-- Lists in order with the same members are equal.
use Rattle.std.proofs.Common.{◌≡◌, true, ◌&&◌, List, [], ◌∷◌, map, Option, Some, None, Ordering, Less, refl, sym, ap, subst, ◌∙◌}
use Rattle.std.specs.Prelude.{T, is_some}
use Rattle.std.specs.Cmp.{IsTotalOrder}
use Rattle.std.specs.FinMap as fin
use Rattle.std.specs.FinMap.{FinMap, IsAntisymmetric, is_sorted, find}
use Rattle.std.specs.FinMap.Entries.{below_all, is_some-find}
use Rattle.std.specs.List.{AllByRecursion, list_any}
use Rattle.std.specs.List.Sorted.{IsStrictlySortedBy}
use Rattle.std.specs.Ordering.{eq_by_cmp, is_lt}
use Rattle.std.proofs.lemmas.Bool.{true≢false}
use Rattle.std.proofs.lemmas.Map.Keys.{sorted_head, sorted_tail}

abbrev keyed : {K : Type 0} → List K → List (K × Unit {0})
keyed ks = map (λ k. (k, tt)) ks

keys-keyed : {K : Type 0} (ks : List K) → map (λ (e : K × Unit {0}). e.0) (keyed ks) ≡ ks
keys-keyed [] = refl
keys-keyed {K = K} (k ∷ ks) = ap (λ (l : List K). k ∷ l) (keys-keyed ks)

one_unit : (a b : Option (Unit {0})) → is_some a ≡ is_some b → a ≡ b
one_unit None None is = refl
one_unit None (Some u) is = absurd (true≢false (sym is))
one_unit (Some u) None is = absurd (true≢false is)
one_unit (Some u) (Some v) is = refl

module _ {K : Type 0} (R : K → K → Ordering) where
  below-keyed : (k : K) (ks : List K) → AllByRecursion (λ y. R k y ≡ Less) ks → below_all R k (keyed ks) ≡ true
  below-keyed k [] below = refl
  below-keyed k (x ∷ ks) below = ap (λ r. is_lt r && below_all R k (keyed ks)) below.0 ∙ below-keyed k ks below.1

  sorted-keyed : (ks : List K) → IsStrictlySortedBy R ks → is_sorted R (keyed ks) ≡ true
  sorted-keyed [] rises = refl
  sorted-keyed (k ∷ ks) rises = ap (λ b. b && is_sorted R (keyed ks)) (below-keyed k ks (sorted_head R k ks rises)) ∙ sorted-keyed ks (sorted_tail R k ks rises)

  below-keys : {X : Type 0} (k : K) (es : List (K × X)) → below_all R k (keyed (map (λ e. e.0) es)) ≡ below_all R k es
  below-keys k [] = refl
  below-keys k (e ∷ es) = ap (λ b. is_lt (R k e.0) && b) (below-keys k es)

  sorted-keys : {X : Type 0} (es : List (K × X)) → is_sorted R (keyed (map (λ e. e.0) es)) ≡ is_sorted R es
  sorted-keys [] = refl
  sorted-keys (e ∷ es) = (λ i. below-keys e.0 es i && sorted-keys es i)

module _ {K : Type 0} {R : K → K → Ordering} (o : IsTotalOrder R) (same : IsAntisymmetric R) where
  alike : (ks ls : List K) → T (is_sorted R (keyed ks)) → T (is_sorted R (keyed ls)) → ((q : K) → list_any (eq_by_cmp R q) ks ≡ list_any (eq_by_cmp R q) ls) → ks ≡ ls
  alike ks ls rise rises members =
      let maps : fin.from_sorted {R = R} (keyed ks) ≡ fin.from_sorted (keyed ls) =
      fin.same_map o same _ _ (λ q. fin.get-from_sorted R (keyed ks) q rise
      ∙ one_unit (find R q (keyed ks)) (find R q (keyed ls))
      (is_some-find R q (keyed ks) ∙ ap (list_any (eq_by_cmp R q)) (keys-keyed ks) ∙ members q ∙ sym (is_some-find R q (keyed ls) ∙ ap (list_any (eq_by_cmp R q)) (keys-keyed ls)))
      ∙ sym (fin.get-from_sorted R (keyed ls) q rises)) in
      sym (keys-keyed ks)
      ∙ ap (map (λ (e : K × Unit {0}). e.0)) (sym (fin.entries-from_sorted R (keyed ks) rise) ∙ ap (λ (m : FinMap R (Unit {0})). fin.entries m) maps ∙ fin.entries-from_sorted R (keyed ls) rises)
      ∙ keys-keyed ls

  -- a list in order that has the keys of a map is the list of its keys
  pub keys-alike : {X : Type 0} (ks : List K) (m : FinMap R X) → IsStrictlySortedBy R ks → ((q : K) → list_any (eq_by_cmp R q) ks ≡ fin.contains_key m q) → ks ≡ fin.keys m
  keys-alike ks m rises members = alike ks (fin.keys m) (subst T (sym (sorted-keyed R ks rises)) tt) (subst T (sym (sorted-keys R (fin.entries m))) (fin.entries_sorted m)) (λ q. members q ∙ fin.contains_key-keys m q)
