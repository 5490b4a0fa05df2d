-- The names directly below a path: which they are, and in which order.
use Rattle.std.proofs.Common.{ℕ, ◌≡◌, inl, inr, Bool, true, false, cond, List, [], ◌∷◌, ◌++◌, Option, Some, None, Ordering, Less, Equal, Greater, nat_eq, refl, sym, ap, subst, ◌∙◌, arith}
use Rattle.std.specs.Prelude.{◌↔◌, IsSome}
use Rattle.std.specs.Cmp.Lexicographic.{pointwise, bytes_decides, nat_list_cmp_total, slice_cmp}
use Rattle.std.specs.FinMap as fin
use Rattle.std.specs.FinMap.{is_sorted}
use Rattle.std.specs.FinMap.Entries.{below_all}
use Rattle.std.specs.List.{AllByRecursion, Contains, filter_map, cons_option}
use Rattle.std.specs.List.Sorted.{IsStrictlySortedBy}
use Rattle.std.specs.Option.{is_some}
use Rattle.std.specs.Ordering.{is_lt, nat_cmp, ordering_then}
use Rattle.std.proofs.lemmas.Bool.{and_parts}
use Rattle.std.proofs.lemmas.Cmp.{tied_itself}
use Rattle.std.proofs.lemmas.List.Elements.{Contains-push, Contains-push_cases, Contains-append_left, Contains-append_right, Contains-append_cases}
use Rattle.std.proofs.lemmas.Option.{same_Some}
use Rattle.br_path.specs.Path.{Names, path_cmp}
use Rattle.br_path.proofs.PathOrder.{path_total, path_same}
use Rattle.tree_ops.specs.declared.entry.Node.{Node}
use Rattle.tree_ops.specs.Tree.{Tree, node_at, child_name, names_below}
use Rattle.tree_ops.proofs.Finds.{In, in-find, find-in, is_true}
use Rattle.tree_ops.proofs.Sound.{is_there}

-- 1. Which path stands directly below another.

below-child : (at : Names) (name : List ℕ) → child_name at (at ++ name ∷ []) ≡ Some name
below-child [] name = refl
below-child (a ∷ more) name = ap (λ b. cond b (child_name more (more ++ name ∷ [])) None) ((bytes_decides a a).1 refl) ∙ below-child more name

child-below : (at path : Names) (name : List ℕ) → child_name at path ≡ Some name → path ≡ at ++ name ∷ []
child-below [] [] name is = cc
child-below [] (x ∷ []) name is = ap (λ (n : List ℕ). n ∷ []) (same_Some x name is)
child-below [] (x ∷ y ∷ ys) name is = cc
child-below (a ∷ more) [] name is = cc
child-below (a ∷ more) (x ∷ xs) name is = by (pointwise nat_eq a x) refl (child-below more xs name) is
  where
    by : (b : Bool) → pointwise nat_eq a x ≡ b → (child_name more xs ≡ Some name → xs ≡ more ++ name ∷ []) → cond b (child_name more xs) None ≡ Some name → x ∷ xs ≡ a ∷ more ++ name ∷ []
    by true same rest is = λ i. sym ((bytes_decides a x).0 same) i ∷ rest is i
    by false other rest is = cc

-- 2. What is among the names.

in-Contains : {E : Type 0} (e : E) (es : List E) → In e es → Contains es e
in-Contains e [] there = absurd there
in-Contains e (x ∷ xs) (inl same) = subst (Contains (x ∷ xs)) same (Contains-append_left (x ∷ []) xs x (Contains-push [] x))
in-Contains e (x ∷ xs) (inr there) = Contains-append_right (x ∷ []) xs e (in-Contains e xs there)

nothing-in : {E : Type 0} (e : E) → Contains [] e → ⊥
nothing-in e found = let less = found.1 in absurd (omega arith)

Contains-in : {E : Type 0} (es : List E) (e : E) → Contains es e → In e es
Contains-in [] e found = nothing-in e found
Contains-in (x ∷ xs) e found = elim (Contains-append_cases (x ∷ []) xs e found) [
  | inl first ↦ elim (Contains-push_cases [] x e first) [ inl none ↦ absurd (nothing-in e none) | inr same ↦ inl same ]
  | inr rest ↦ inr (Contains-in xs e rest)
]

in-filter_map : {A B : Type 0} (f : A → Option B) (a : A) (b : B) (items : List A) → In a items → f a ≡ Some b → In b (filter_map f items)
in-filter_map f a b [] there is = there
in-filter_map {B = B} f a b (x ∷ xs) (inl same) is = subst (λ (o : Option B). In b (cons_option o (filter_map f xs))) (sym (ap f same ∙ is)) (inl refl)
in-filter_map {B = B} f a b (x ∷ xs) (inr there) is = later (f x) (in-filter_map f a b xs there is)
  where
    later : (o : Option B) → In b (filter_map f xs) → In b (cons_option o (filter_map f xs))
    later None rest = rest
    later (Some y) rest = inr rest

filter_map-in : {A B : Type 0} (f : A → Option B) (b : B) (items : List A) → In b (filter_map f items) → (a : A) × In a items × (f a ≡ Some b)
filter_map-in f b [] there = absurd there
filter_map-in {A = A} {B = B} f b (x ∷ xs) there = by (f x) refl (filter_map-in f b xs) there
  where
    by : (o : Option B) → f x ≡ o → (In b (filter_map f xs) → (a : A) × In a xs × (f a ≡ Some b)) → In b (cons_option o (filter_map f xs)) → (a : A) × In a (x ∷ xs) × (f a ≡ Some b)
    by None is rest there = let found = rest there in (found.0, inr found.1, found.2)
    by (Some y) is rest (inl same) = (x, inl refl, is ∙ ap Some same)
    by (Some y) is rest (inr there) = let found = rest there in (found.0, inr found.1, found.2)

abbrev child_of : Names → Names × Node → Option (List ℕ)
child_of at entry = child_name at entry.0

-- a name is among those below a path just where something stands at the path with this name after it
pub exactly-below : (tree : Tree) (at : Names) (name : List ℕ) → Contains (names_below tree at) name ↔ IsSome (node_at tree (at ++ name ∷ []))
exactly-below tree at name = (
  λ found.
      let entry = filter_map-in (child_of at) name (fin.entries tree.names) (Contains-in (names_below tree at) name found) in
      let path : entry.0.0 ≡ at ++ name ∷ [] = child-below at entry.0.0 name entry.2 in
      let there : node_at tree entry.0.0 ≡ Some entry.0.1 = fin.get-entries tree.names entry.0.0 ∙ find-in path_total path_same entry.0 (fin.entries tree.names) (fin.entries_sorted tree.names) entry.1 in
      ap is_some (ap (node_at tree) (sym path) ∙ there),
  λ some.
      let node = is_there (node_at tree (at ++ name ∷ [])) some in
      let entry = in-find path_total path_same (at ++ name ∷ []) node.0 (fin.entries tree.names) (sym (fin.get-entries tree.names (at ++ name ∷ [])) ∙ node.1) in
      in-Contains name (names_below tree at) (in-filter_map (child_of at) (at ++ name ∷ [], node.0) name (fin.entries tree.names) entry (below-child at name)),
)

-- 3. Their order.

then-equal : (r : Ordering) → ordering_then r Equal ≡ r
then-equal Less = refl
then-equal Equal = refl
then-equal Greater = refl

-- paths of one folder come as their last names do
order-last : (at : Names) (a b : List ℕ) → path_cmp (at ++ a ∷ []) (at ++ b ∷ []) ≡ slice_cmp nat_cmp a b
order-last [] a b = then-equal (slice_cmp nat_cmp a b)
order-last (x ∷ at) a b = ap (λ r. ordering_then r (path_cmp (at ++ a ∷ []) (at ++ b ∷ []))) (tied_itself nat_list_cmp_total x) ∙ order-last at a b

is_less : (r : Ordering) → is_lt r ≡ true → r ≡ Less
is_less Less is = refl
is_less Equal is = cc
is_less Greater is = cc

later-names : (at : Names) (name : List ℕ) (es : List (Names × Node)) → below_all path_cmp (at ++ name ∷ []) es ≡ true → AllByRecursion (λ other. slice_cmp nat_cmp name other ≡ Less) (filter_map (child_of at) es)
later-names at name [] below = tt
later-names at name (e ∷ es) below = by (child_name at e.0) refl (later-names at name es parts.1)
  where
    parts : (is_lt (path_cmp (at ++ name ∷ []) e.0) ≡ true) × (below_all path_cmp (at ++ name ∷ []) es ≡ true)
    parts = and_parts (is_lt (path_cmp (at ++ name ∷ []) e.0)) (below_all path_cmp (at ++ name ∷ []) es) below

    by : (o : Option (List ℕ)) → child_name at e.0 ≡ o → AllByRecursion (λ other. slice_cmp nat_cmp name other ≡ Less) (filter_map (child_of at) es)
        → AllByRecursion (λ other. slice_cmp nat_cmp name other ≡ Less) (cons_option o (filter_map (child_of at) es))
    by None is rest = rest
    by (Some other) is rest =
        (sym (order-last at name other) ∙ ap (λ (path : Names). path_cmp (at ++ name ∷ []) path) (sym (child-below at e.0 other is)) ∙ is_less (path_cmp (at ++ name ∷ []) e.0) parts.0, rest)

names-rise : (at : Names) (es : List (Names × Node)) → is_sorted path_cmp es ≡ true → IsStrictlySortedBy (slice_cmp nat_cmp) (filter_map (child_of at) es)
unfolding IsStrictlySortedBy
names-rise at [] sorted = tt
names-rise at (e ∷ es) sorted = by (child_name at e.0) refl (names-rise at es parts.1)
  where
    parts : (below_all path_cmp e.0 es ≡ true) × (is_sorted path_cmp es ≡ true)
    parts = and_parts (below_all path_cmp e.0 es) (is_sorted path_cmp es) sorted

    by : (o : Option (List ℕ)) → child_name at e.0 ≡ o → IsStrictlySortedBy (slice_cmp nat_cmp) (filter_map (child_of at) es) → IsStrictlySortedBy (slice_cmp nat_cmp) (cons_option o (filter_map (child_of at) es))
    by None is rest = rest
    by (Some name) is rest = (later-names at name es (ap (λ (path : Names). below_all path_cmp path es) (sym (child-below at e.0 name is)) ∙ parts.0), rest)

-- the names below a path rise in the order of their bytes
pub below-rise : (tree : Tree) (at : Names) → IsStrictlySortedBy (slice_cmp nat_cmp) (names_below tree at)
below-rise tree at = names-rise at (fin.entries tree.names) (is_true (is_sorted path_cmp (fin.entries tree.names)) (fin.entries_sorted tree.names))
