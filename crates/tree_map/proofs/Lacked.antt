-- What one map lacks of another, when it is added and when it is taken away again.
use Rattle.std.proofs.Common.{ℕ, ◌+◌, ◌≡◌, ◌<◌, inl, inr, Bool, true, false, not, cond, ◌||◌, List, [], ◌∷◌, map, length, drop, get_or, Option, Some, None, Ordering, Less, Equal, Greater, is_some, is_none, refl, sym, ap, subst, ◌∙◌, arith}
use Rattle.std.specs.Prelude.{T}
use Rattle.std.specs.FinMap as fin
use Rattle.std.specs.FinMap.{FinMap, IsAntisymmetric, is_sorted}
use Rattle.std.specs.FinMap.Entries.{where_key, find-where_key, is_sorted-where_key, is_some-find, below_all}
use Rattle.std.specs.Cmp.{IsTotalOrder, Equal-is}
use Rattle.std.specs.List.{list_any, sum_by}
use Rattle.std.specs.Option.{option_or}
use Rattle.std.specs.Ordering.{eq_by_cmp, is_eq, is_lt, ordering_reverse}
use Rattle.std.proofs.lemmas.Bool.{and_parts, true≢false}
use Rattle.std.proofs.lemmas.List.{drop_more}
use Rattle.std.proofs.lemmas.List.Sums.{sum_by-cons}
use Rattle.tree_ops.specs.Tree.{laid}
use Rattle.tree_ops.proofs.Finds.{In, is_true, find-in, get-none, get-laid}
use Rattle.tree_ops.proofs.Inserts.{sum_by-entries_insert, len-insert_new}
use Rattle.tree_map.specs.Lacking.{lacking, clash, is_other, put_at, with_keys, without_keys}
use Rattle.tree_map.proofs.Carried.{kept-in}

cond-same : {A : Type 0} (b : Bool) (x : A) → cond b x x ≡ x
cond-same true x = refl
cond-same false x = refl

cond-none : {A : Type 0} (a b : Bool) (x : Option A) → cond a None (cond b None x) ≡ cond (b || a) None x
cond-none true true x = refl
cond-none true false x = refl
cond-none false true x = refl
cond-none false false x = refl

twice : {A : Type 0} (b : Bool) (h l : Option A) → cond b (option_or h (option_or h l)) (option_or h l) ≡ option_or h l
twice true None l = refl
twice true (Some x) l = refl
twice false h l = refl

none_there : {A : Type 0} (l : Option A) → is_none l ≡ true → l ≡ None
none_there None is = refl
none_there (Some x) is = absurd (true≢false (sym is))

either_false : (a b : Bool) → (a || b) ≡ false → (a ≡ false) × (b ≡ false)
either_false true b is = absurd (true≢false is)
either_false false b is = (refl, is)

un_not : (b : Bool) → not b ≡ false → b ≡ true
un_not true is = refl
un_not false is = absurd (true≢false is)

module _ {K : Type 0} {R : K → K → Ordering} (o : IsTotalOrder R) where
  apart : (k q : K) → T (is_lt (R k q)) → eq_by_cmp R q k ≡ false
  apart k q less = ap is_eq (o.antisymm q k) ∙ by (R k q) less
    where
      by : (r : Ordering) → T (is_lt r) → is_eq (ordering_reverse r) ≡ false
      by Less less = refl
      by Equal less = absurd less
      by Greater less = absurd less

module _ {K X : Type 0} {R : K → K → Ordering} (o : IsTotalOrder R) (same : IsAntisymmetric R) where
  get-put_at : (m : FinMap R X) (k : K) (v : Option X) (q : K) → fin.get (put_at m k v) q ≡ cond (eq_by_cmp R q k) (option_or v (fin.get m q)) (fin.get m q)
  get-put_at m k None q = sym (cond-same (eq_by_cmp R q k) (fin.get m q))
  get-put_at m k (Some v) q = fin.get-insert o m k v q

  -- another key finds what it found
  pub put_at-other : (m : FinMap R X) (k : K) (v : Option X) (q : K) (rest : List K) → (eq_by_cmp R q k || list_any (eq_by_cmp R q) rest) ≡ false → (list_any (eq_by_cmp R q) rest ≡ false) × (fin.get (put_at m k v) q ≡ fin.get m q)
  put_at-other m k v q rest none =
      let parts = either_false (eq_by_cmp R q k) (list_any (eq_by_cmp R q) rest) none in
      (parts.1, get-put_at m k v q ∙ ap (λ b. cond b (option_or v (fin.get m q)) (fin.get m q)) parts.0)

  get-with_keys : (ks : List K) (high m : FinMap R X) (q : K) → fin.get (with_keys ks high m) q ≡ cond (list_any (eq_by_cmp R q) ks) (option_or (fin.get high q) (fin.get m q)) (fin.get m q)
  get-with_keys [] high m q = refl
  get-with_keys (k ∷ ks) high m q = get-with_keys ks high (put_at m k (fin.get high k)) q ∙ by (eq_by_cmp R q k) refl
    where
      by : (b : Bool) → eq_by_cmp R q k ≡ b
          → cond (list_any (eq_by_cmp R q) ks) (option_or (fin.get high q) (fin.get (put_at m k (fin.get high k)) q)) (fin.get (put_at m k (fin.get high k)) q) ≡ cond (b || list_any (eq_by_cmp R q) ks) (option_or (fin.get high q) (fin.get m q)) (fin.get m q)
      by true tied =
          let value : fin.get high k ≡ fin.get high q = fin.get_tied o high q k ((Equal-is (R q k)).0 tied) in
          let next : fin.get (put_at m k (fin.get high k)) q ≡ option_or (fin.get high q) (fin.get m q) = get-put_at m k (fin.get high k) q ∙ (λ i. cond (tied i) (option_or (value i) (fin.get m q)) (fin.get m q)) in
          ap (λ n. cond (list_any (eq_by_cmp R q) ks) (option_or (fin.get high q) n) n) next ∙ twice (list_any (eq_by_cmp R q) ks) (fin.get high q) (fin.get m q)
      by false other =
          let next : fin.get (put_at m k (fin.get high k)) q ≡ fin.get m q = get-put_at m k (fin.get high k) q ∙ ap (λ b. cond b (option_or (fin.get high k) (fin.get m q)) (fin.get m q)) other in
          ap (λ n. cond (list_any (eq_by_cmp R q) ks) (option_or (fin.get high q) n) n) next

  get-without_keys : (ks : List K) (m : FinMap R X) (q : K) → fin.get (without_keys ks m) q ≡ cond (list_any (eq_by_cmp R q) ks) None (fin.get m q)
  get-without_keys [] m q = refl
  get-without_keys (k ∷ ks) m q =
      get-without_keys ks (fin.remove m k) q ∙ ap (cond (list_any (eq_by_cmp R q) ks) None) (fin.get-remove o m k q) ∙ cond-none (list_any (eq_by_cmp R q) ks) (eq_by_cmp R q k) (fin.get m q)

  -- which keys are lacked
  lacked-is : (low high : FinMap R X) (q : K) → list_any (eq_by_cmp R q) (lacking low (fin.entries high)) ≡ is_some (cond (is_none (fin.get low q)) (fin.get high q) None)
  lacked-is low high q =
      sym (is_some-find R q (where_key R (λ k. is_none (fin.get low k)) (fin.entries high)))
      ∙ ap is_some (find-where_key R (λ k. is_none (fin.get low k)) q (λ x tied. ap (λ k. is_none (fin.get low k)) (sym (same q x tied))) (fin.entries high)
      ∙ ap (λ f. cond (is_none (fin.get low q)) f None) (sym (fin.get-entries high q)))

  -- where both maps have a value it is the same
  pub agreed : (test : X → X → Bool) → ((x y : X) → test x y ≡ true → x ≡ y) → (low high : FinMap R X) → clash test low (fin.entries high) ≡ false
      → (q : K) (x y : X) → fin.get low q ≡ Some x → fin.get high q ≡ Some y → x ≡ y
  agreed test decides low high none q x y below above =
      decides x y (un_not (test x y) (sym (ap (λ l. is_other test l y) below) ∙ get-none o same (λ entry. is_other test (fin.get low entry.0) entry.1) high q y none above))

  -- with what it lacks added, a map has the other one laid over it
  pub with_keys-laid : (test : X → X → Bool) → ((x y : X) → test x y ≡ true → x ≡ y) → (low high : FinMap R X) → clash test low (fin.entries high) ≡ false → with_keys (lacking low (fin.entries high)) high low ≡ laid low high
  with_keys-laid test decides low high none = fin.same_map o same _ _ (λ q.
      get-with_keys (lacking low (fin.entries high)) high low q
      ∙ ap (λ b. cond b (option_or (fin.get high q) (fin.get low q)) (fin.get low q)) (lacked-is low high q)
      ∙ by q (fin.get low q) refl (fin.get high q) refl
      ∙ sym (get-laid o same low high q))
    where
      by : (q : K) (l : Option X) → fin.get low q ≡ l → (h : Option X) → fin.get high q ≡ h → cond (is_some (cond (is_none l) h None)) (option_or h l) l ≡ option_or h l
      by q None below None above = refl
      by q None below (Some y) above = refl
      by q (Some x) below None above = refl
      by q (Some x) below (Some y) above = ap Some (agreed test decides low high none q x y below above)

  -- what is added is taken away again
  pub undone-lacked : (low high m : FinMap R X) (ks : List K) → ks ≡ lacking low (fin.entries high) → ((q : K) → list_any (eq_by_cmp R q) ks ≡ false → fin.get m q ≡ fin.get low q) → without_keys ks m ≡ low
  undone-lacked low high m ks is others = fin.same_map o same _ _ (λ q. get-without_keys ks m q ∙ by q (list_any (eq_by_cmp R q) ks) refl)
    where
      absent : (l h : Option X) → is_some (cond (is_none l) h None) ≡ true → None ≡ l
      absent None h some = refl
      absent (Some x) h some = absurd (true≢false (sym some))

      by : (q : K) (b : Bool) → list_any (eq_by_cmp R q) ks ≡ b → cond b None (fin.get m q) ≡ fin.get low q
      by q true any = absent (fin.get low q) (fin.get high q) (sym (lacked-is low high q) ∙ ap (list_any (eq_by_cmp R q)) (sym is) ∙ any)
      by q false none = others q none

  pub undone-with_keys : (low high : FinMap R X) (ks : List K) → ks ≡ lacking low (fin.entries high) → without_keys ks (with_keys ks high low) ≡ low
  undone-with_keys low high ks is = undone-lacked low high (with_keys ks high low) ks is (λ q none. get-with_keys ks high low q ∙ ap (λ b. cond b (option_or (fin.get high q) (fin.get low q)) (fin.get low q)) none)

  -- one key more
  pub with_keys-more : (ks : List K) (i : ℕ) (d : K) (high m n whole : FinMap R X) → i < length ks → n ≡ put_at m (get_or ks i d) (fin.get high (get_or ks i d)) → with_keys (drop i ks) high m ≡ whole → with_keys (drop (i + 1) ks) high n ≡ whole
  with_keys-more ks i d high m n whole less put so_far = ap (with_keys (drop (i + 1) ks) high) put ∙ ap (λ (l : List K). with_keys l high m) (sym (drop_more ks i d less)) ∙ so_far

  pub others-more : (ks : List K) (i : ℕ) (d : K) (high m n old : FinMap R X) (q : K) → i < length ks → n ≡ put_at m (get_or ks i d) (fin.get high (get_or ks i d))
      → (list_any (eq_by_cmp R q) (drop i ks) ≡ false) × (fin.get m q ≡ fin.get old q) → (list_any (eq_by_cmp R q) (drop (i + 1) ks) ≡ false) × (fin.get n q ≡ fin.get old q)
  others-more ks i d high m n old q less put so_far =
      let next = put_at-other m (get_or ks i d) (fin.get high (get_or ks i d)) q (drop (i + 1) ks) (ap (list_any (eq_by_cmp R q)) (sym (drop_more ks i d less)) ∙ so_far.0) in
      (next.0, ap (λ (m : FinMap R X). fin.get m q) put ∙ next.1 ∙ so_far.1)

  pub without_keys-more : (ks : List K) (i : ℕ) (d : K) (m n whole : FinMap R X) → i < length ks → n ≡ fin.remove m (get_or ks i d) → without_keys (drop i ks) m ≡ whole → without_keys (drop (i + 1) ks) n ≡ whole
  without_keys-more ks i d m n whole less taken so_far = ap (without_keys (drop (i + 1) ks)) taken ∙ ap (λ (l : List K). without_keys l m) (sym (drop_more ks i d less)) ∙ so_far

  -- 2. How many there are.

  below-in : (k : K) (es : List (K × X)) (e : K × X) → T (below_all R k es) → In e es → T (is_lt (R k e.0))
  below-in k [] e below there = absurd there
  below-in k (x ∷ xs) e below (inl is) = subst (λ (e : K × X). T (is_lt (R k e.0))) is (subst T (sym (and_parts _ _ (is_true _ below)).0) tt)
  below-in k (x ∷ xs) e below (inr there) = below-in k xs e (subst T (sym (and_parts (is_lt (R k x.0)) _ (is_true _ below)).1) tt) there

  abbrev keys_in : List (K × X) → List K
  keys_in es = map (λ entry. entry.0) es

  counted-with : (f : K → ℕ) (high : FinMap R X) (es : List (K × X)) (m : FinMap R X) → T (is_sorted R es) → ((e : K × X) → In e es → fin.get high e.0 ≡ Some e.1) → ((e : K × X) → In e es → fin.get m e.0 ≡ None)
      → (fin.len (with_keys (keys_in es) high m) ≡ fin.len m + length (keys_in es))
      × (sum_by (λ entry. f entry.0) (fin.entries (with_keys (keys_in es) high m)) ≡ sum_by (λ entry. f entry.0) (fin.entries m) + sum_by f (keys_in es))
  counted-with f high [] m sorted stands absent = (omega arith, omega arith)
  counted-with f high (e ∷ es) m sorted stands absent =
      let parts = and_parts (below_all R e.0 es) (is_sorted R es) (is_true _ sorted) in
      let put : put_at m e.0 (fin.get high e.0) ≡ fin.insert m e.0 e.1 = ap (put_at m e.0) (stands e (inl refl)) in
      let new : fin.get m e.0 ≡ None = absent e (inl refl) in
      let rest = counted-with f high es (fin.insert m e.0 e.1) (subst T (sym parts.1) tt) (λ other there. stands other (inr there)) (λ other there.
      fin.get-insert o m e.0 e.1 other.0 ∙ ap (λ b. cond b (Some e.1) (fin.get m other.0)) (apart o e.0 other.0 (below-in e.0 es other (subst T (sym parts.0) tt) there)) ∙ absent other (inr there)) in
      let one : fin.len (fin.insert m e.0 e.1) ≡ fin.len m + 1 = len-insert_new o m e.0 e.1 new in
      let more : sum_by (λ entry. f entry.0) (fin.entries (fin.insert m e.0 e.1)) ≡ f e.0 + sum_by (λ entry. f entry.0) (fin.entries m) = sum_by-entries_insert o (λ entry. f entry.0) m e.0 e.1 new in
      let sum : sum_by f (e.0 ∷ keys_in es) ≡ f e.0 + sum_by f (keys_in es) = sum_by-cons f e.0 (keys_in es) in
      let len_is : fin.len (with_keys (keys_in es) high (fin.insert m e.0 e.1)) ≡ fin.len (fin.insert m e.0 e.1) + length (keys_in es) = rest.0 in
      let sum_is : sum_by (λ entry. f entry.0) (fin.entries (with_keys (keys_in es) high (fin.insert m e.0 e.1))) ≡ sum_by (λ entry. f entry.0) (fin.entries (fin.insert m e.0 e.1)) + sum_by f (keys_in es) = rest.1 in (
        ap (λ n. fin.len (with_keys (keys_in es) high n)) put ∙ omega (arith, len_is, one),
        ap (λ n. sum_by (λ entry. f entry.0) (fin.entries (with_keys (keys_in es) high n))) put ∙ omega (arith, sum_is, more, sum),
      )

  pub counted-lacking : (f : K → ℕ) (low high : FinMap R X) → (fin.len (with_keys (lacking low (fin.entries high)) high low) ≡ fin.len low + length (lacking low (fin.entries high)))
      × (sum_by (λ entry. f entry.0) (fin.entries (with_keys (lacking low (fin.entries high)) high low)) ≡ sum_by (λ entry. f entry.0) (fin.entries low) + sum_by f (lacking low (fin.entries high)))
  counted-lacking f low high =
      counted-with f high (where_key R (λ k. is_none (fin.get low k)) (fin.entries high)) low (is_sorted-where_key R (λ k. is_none (fin.get low k)) (fin.entries high) (fin.entries_sorted high))
      (λ e there. fin.get-entries high e.0 ∙ find-in o same e (fin.entries high) (fin.entries_sorted high) (kept-in R (λ k. is_none (fin.get low k)) e (fin.entries high) there).0)
      (λ e there. none_there (fin.get low e.0) (kept-in R (λ k. is_none (fin.get low k)) e (fin.entries high) there).1)
