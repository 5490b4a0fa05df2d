-- The members of lists that are put together.
use Rattle.std.proofs.Common.{ℕ, zero, suc, ◌+◌, ◌≡◌, ◌≤◌, ◌<◌, ◌⊎◌, inl, inr, Bool, true, false, cond, List, [], ◌∷◌, ◌++◌, map, Option, Some, None, Ordering, refl, sym, ap, subst, ◌∙◌, arith, nat_lt}
use Rattle.std.specs.Prelude.{T, All, flat_map, filter}
use Rattle.std.specs.List.{filter_map, range_with_len, cons_option, list_all}
use Rattle.std.specs.FinMap.{find}
use Rattle.std.specs.FinMap.Entries.{below_all}
use Rattle.std.specs.Cmp.{IsTotalOrder}
use Rattle.std.specs.Ordering.{eq_by_cmp, is_eq, is_lt}
use Rattle.std.proofs.lemmas.Bool.{true≢false, and_parts, ltb-true, ltb-false}
use Rattle.std.proofs.lemmas.Cmp.{tied_itself}
use Rattle.std.proofs.lemmas.List.Elements.{All-nil, All-cons}
use Rattle.tree_ops.proofs.Finds.{In, is_true}

pub in-append : {E : Type 0} (e : E) (xs ys : List E) → In e (xs ++ ys) → In e xs ⊎ In e ys
in-append e [] ys there = inr there
in-append e (x ∷ xs) ys (inl same) = inl (inl same)
in-append e (x ∷ xs) ys (inr there) = elim (in-append e xs ys there) [ inl front ↦ inl (inr front) | inr back ↦ inr back ]

pub in-front : {E : Type 0} (e : E) (xs ys : List E) → In e xs → In e (xs ++ ys)
in-front e [] ys there = absurd there
in-front e (x ∷ xs) ys (inl same) = inl same
in-front e (x ∷ xs) ys (inr there) = inr (in-front e xs ys there)

pub in-back : {E : Type 0} (e : E) (xs ys : List E) → In e ys → In e (xs ++ ys)
in-back e [] ys there = there
in-back e (x ∷ xs) ys there = inr (in-back e xs ys there)

pub in-flat_map : {X E : Type 0} (f : X → List E) (e : E) (xs : List X) → In e (flat_map f xs) → (x : X) × In x xs × In e (f x)
in-flat_map f e [] there = absurd there
in-flat_map f e (x ∷ xs) there = elim (in-append e (f x) (flat_map f xs) there) [
  | inl front ↦ (x, inl refl, front)
  | inr back ↦ let found = in-flat_map f e xs back in (found.0, inr found.1, found.2)
]

pub flat_map-in : {X E : Type 0} (f : X → List E) (e : E) (x : X) (xs : List X) → In x xs → In e (f x) → In e (flat_map f xs)
flat_map-in f e x [] there is = absurd there
flat_map-in {E = E} f e x (y ∷ ys) (inl same) is = in-front e (f y) (flat_map f ys) (subst (λ z. In e (f z)) (sym same) is)
flat_map-in f e x (y ∷ ys) (inr there) is = in-back e (f y) (flat_map f ys) (flat_map-in f e x ys there is)

in-cons_option : {E : Type 0} (e : E) (o : Option E) (es : List E) → In e (cons_option o es) → (o ≡ Some e) ⊎ In e es
in-cons_option e None es there = inr there
in-cons_option e (Some x) es (inl same) = inl (ap Some same)
in-cons_option e (Some x) es (inr there) = inr there

cons_option-in : {E : Type 0} (e : E) (o : Option E) (es : List E) → In e es → In e (cons_option o es)
cons_option-in e None es there = there
cons_option-in e (Some x) es there = inr there

pub in-filter_map : {X E : Type 0} (f : X → Option E) (e : E) (xs : List X) → In e (filter_map f xs) → (x : X) × In x xs × (f x ≡ Some e)
in-filter_map f e [] there = absurd there
in-filter_map f e (x ∷ xs) there = elim (in-cons_option e (f x) (filter_map f xs) there) [
  | inl is ↦ (x, inl refl, is)
  | inr back ↦ let found = in-filter_map f e xs back in (found.0, inr found.1, found.2)
]

pub filter_map-in : {X E : Type 0} (f : X → Option E) (e : E) (x : X) (xs : List X) → In x xs → f x ≡ Some e → In e (filter_map f xs)
filter_map-in f e x [] there is = absurd there
filter_map-in f e x (y ∷ ys) (inl same) is = subst (λ o. In e (cons_option o (filter_map f ys))) (sym (ap f same ∙ is)) (inl refl)
filter_map-in f e x (y ∷ ys) (inr there) is = cons_option-in e (f y) (filter_map f ys) (filter_map-in f e x ys there is)

pub in-range : (t a n : ℕ) → In t (range_with_len a n) → t < a + n
in-range t a zero there = absurd there
in-range t a (suc n) (inl same) = omega arith
in-range t a (suc n) (inr there) = let less = in-range t (a + 1) n there in omega arith

pub range-in : (t a n : ℕ) → a ≤ t → t < a + n → In t (range_with_len a n)
range-in t a zero low high = absurd (omega arith)
range-in t a (suc n) low high = by (λ above. range-in t (a + 1) n (omega arith) (omega arith)) (nat_lt a t) refl
  where
    by : (a < t → In t (range_with_len (a + 1) n)) → (b : Bool) → nat_lt a t ≡ b → In t (a ∷ range_with_len (a + 1) n)
    by rest true less = inr (rest (ltb-true a t less))
    by rest false same = let below = ltb-false a t same in inl (omega arith)

-- where a filter keeps nothing, no element passes
pub none-filter : {E : Type 0} (test : E → Bool) (e : E) (es : List E) → filter test es ≡ [] → In e es → test e ≡ false
none-filter test e [] none there = absurd there
none-filter test e (x ∷ xs) none there = by (none-filter test e xs) (test x) refl none there
  where
    by : (filter test xs ≡ [] → In e xs → test e ≡ false) → (b : Bool) → test x ≡ b → cond b (x ∷ filter test xs) (filter test xs) ≡ [] → In e (x ∷ xs) → test e ≡ false
    by rest true passes none there = cc
    by rest false fails none (inl same) = ap test (sym same) ∙ fails
    by rest false fails none (inr there) = rest none there

-- those that a filter keeps
pub filter-in : {E : Type 0} (test : E → Bool) (e : E) (es : List E) → In e es → test e ≡ true → In e (filter test es)
filter-in test e [] there passes = absurd there
filter-in test e (x ∷ xs) there passes = by (filter-in test e xs) (test x) refl there
  where
    by : (In e xs → test e ≡ true → In e (filter test xs)) → (b : Bool) → test x ≡ b → In e (x ∷ xs) → In e (cond b (x ∷ filter test xs) (filter test xs))
    by rest true is (inl same) = inl same
    by rest true is (inr there) = inr (rest there passes)
    by rest false is (inl same) = absurd (true≢false (sym passes ∙ ap test (sym same) ∙ is))
    by rest false is (inr there) = rest there passes

pub map-nil : {X Y : Type 0} (f : X → Y) (xs : List X) → map f xs ≡ [] → xs ≡ []
map-nil f [] none = refl
map-nil f (x ∷ xs) none = cc

pub append-nils : {E : Type 0} (xs ys : List E) → xs ++ ys ≡ [] → (xs ≡ []) × (ys ≡ [])
append-nils [] ys none = (refl, none)
append-nils (x ∷ xs) ys none = cc

pub all-in : {E : Type 0} (test : E → Bool) (e : E) (es : List E) → list_all test es ≡ true → In e es → test e ≡ true
all-in test e [] all there = absurd there
all-in test e (x ∷ xs) all (inl same) = ap test (sym same) ∙ (and_parts (test x) (list_all test xs) all).0
all-in test e (x ∷ xs) all (inr there) = all-in test e xs (and_parts (test x) (list_all test xs) all).1 there

pub map-in : {X Y : Type 0} (f : X → Y) (x : X) (xs : List X) → In x xs → In (f x) (map f xs)
map-in f x [] there = absurd there
map-in f x (y ∷ ys) (inl same) = inl (ap f same)
map-in f x (y ∷ ys) (inr there) = inr (map-in f x ys there)

-- some value is found at the key of an entry
pub in-some : {K X : Type 0} {R : K → K → Ordering} (o : IsTotalOrder R) (e : K × X) (es : List (K × X)) → In e es → (v : X) × (find R e.0 es ≡ Some v)
in-some o e [] there = absurd there
in-some {K = K} {X = X} {R = R} o e (x ∷ xs) there = by (in-some o e xs) (eq_by_cmp R e.0 x.0) refl there
  where
    by : (In e xs → (v : X) × (find R e.0 xs ≡ Some v)) → (b : Bool) → eq_by_cmp R e.0 x.0 ≡ b → In e (x ∷ xs) → (v : X) × (cond b (Some x.1) (find R e.0 xs) ≡ Some v)
    by rest true tied there = (x.1, refl)
    by rest false other (inl same) = absurd (true≢false (sym (ap is_eq (tied_itself o e.0)) ∙ ap (λ (y : K × X). eq_by_cmp R e.0 y.0) (sym same) ∙ other))
    by rest false other (inr there) = rest there

-- an entry of those that are above a key is above it
pub below-in : {K X : Type 0} (R : K → K → Ordering) (k : K) (es : List (K × X)) (e : K × X) → T (below_all R k es) → In e es → T (is_lt (R k e.0))
below-in R k [] e below there = absurd there
below-in {K = K} {X = X} R k (x ∷ xs) e below (inl is) = subst (λ (e : K × X). T (is_lt (R k e.0))) is (subst T (sym (and_parts _ _ (is_true _ below)).0) tt)
below-in R k (x ∷ xs) e below (inr there) = below-in R k xs e (subst T (sym (and_parts (is_lt (R k x.0)) _ (is_true _ below)).1) tt) there

pub all-of : {E : Type 0} (P : E → Type 0) (es : List E) → ((e : E) → In e es → P e) → All P es
all-of P [] each = All-nil P
all-of P (e ∷ es) each = All-cons P e es (each e (inl refl)) (all-of P es (λ x there. each x (inr there)))
