-- The names directly below a path of the input.
use Rattle.std.proofs.Common.{ℕ, ◌≡◌, Bool, true, false, cond, List, [], ◌∷◌, ◌++◌, map, length, All, Contains, Option, Some, None, Result, Ok, Err, IfOk, Ordering, Less, nat_eq, refl, sym, ap, subst, ◌∙◌, ◌↔◌, ◌||◌, ◌&&◌, get_or}
use Rattle.std.specs.Prelude.{T, IsSome, if◌then◌else◌}
use Rattle.std.specs.FinMap as fin
use Rattle.std.specs.FinMap.{find, is_sorted}
use Rattle.std.specs.FinMap.Entries.{below_all}
use Rattle.std.specs.Cmp.{Equal-is}
use Rattle.std.specs.Cmp.Lexicographic.{pointwise, slice_cmp, nat_list_cmp_total, bytes_decides, same_text}
use Rattle.std.specs.List.{AllByRecursion, list_any, filter_map, cons_option}
use Rattle.std.specs.List.Sorted.{IsStrictlySortedBy}
use Rattle.std.specs.Ordering.{nat_cmp, is_eq, is_lt, eq_by_cmp}
use Rattle.std.proofs.lemmas.Bool.{true≢false}
use Rattle.std.proofs.lemmas.Cmp.{tied_itself, eq_by_cmp_equiv}
use Rattle.std.proofs.lemmas.List.Elements.{Contains-get_or}
use Rattle.std.proofs.lemmas.Map.Views.{Contains-from_any, list_any-from_Contains}
use Rattle.std.proofs.Math.Seq.{take-append_seam}
use Rattle.br_path.specs.Path.{Names, IsPath}
use Rattle.br_path.specs.Files.{FileMap, IsChild, IsInput}
use Rattle.br_path.proofs.Paths.{IsPath-take}
use Rattle.br_path.proofs.PathOrder.{name_same, path_total, path_same}
use Rattle.tree_ops.proofs.Counts.{entries-from_entries}
use Rattle.tree_ops.proofs.Finds.{any-get, get-any}
use Rattle.tree_ops.proofs.Heads.{rows}
use Rattle.tree_ops.proofs.Sound.{is_there, same_tests}
use Rattle.sh_places.specs.Looks.{next_name, input_names}

abbrev order : List ℕ → List ℕ → Ordering
order = slice_cmp nat_cmp

abbrev named : List ℕ → List ℕ × Unit {0}
named name = (name, tt {0})

-- 1. Names as the keys of a map.

both : (a b : Bool) → T a → T b → T (a && b)
both true b one two = two
both false b one two = one

below : (first : List ℕ) (names : Names) → AllByRecursion (λ name. order first name ≡ Less) names → T (below_all order first (map named names))
below first [] all = tt
below first (name ∷ names) all = both (is_lt (order first name)) _ (subst (λ (r : Ordering). T (is_lt r)) (sym all.0) tt) (below first names all.1)

rises : (names : Names) → IsStrictlySortedBy order names → T (is_sorted order (map named names))
unfolding IsStrictlySortedBy
rises [] sorted = tt
rises (name ∷ names) sorted = both (below_all order name (map named names)) _ (below name names sorted.0) (rises names sorted.1)

keys-named : (names : Names) → map (λ e. e.0) (map named names) ≡ names
keys-named [] = refl
keys-named (name ∷ names) = ap (λ (rest : Names). name ∷ rest) (keys-named names)

find-any : (names : Names) (q : List ℕ) → find order q (map named names) ≡ cond (list_any (eq_by_cmp order q) names) (Some (tt {0})) None
find-any [] q = refl
find-any (name ∷ names) q = by (eq_by_cmp order q name) (find-any names q)
  where
    by : (b : Bool) → find order q (map named names) ≡ cond (list_any (eq_by_cmp order q) names) (Some (tt {0})) None
        → cond b (Some (tt {0})) (find order q (map named names)) ≡ cond (b || list_any (eq_by_cmp order q) names) (Some (tt {0})) None
    by true rest = refl
    by false rest = rest

get-any_of : (names : Names) (q : List ℕ) → fin.get (fin.from_entries {R = order} (map named names)) q ≡ cond (list_any (eq_by_cmp order q) names) (Some (tt {0})) None
get-any_of names q = fin.get-from_entries nat_list_cmp_total (map named names) q ∙ find-any names q

-- 2. The next name on the way to a path.

exact : (x y : List ℕ) → eq_by_cmp order x y ≡ true → x ≡ y
exact x y same = name_same x y ((Equal-is (order x y)).0 same)

abbrev gives : List ℕ → Option (List ℕ) → Bool
gives q None = false
gives q (Some name) = eq_by_cmp order q name

next-is : (at path : Names) (q : List ℕ) → gives q (next_name at path) ≡ true → (rest : Names) × (path ≡ at ++ q ∷ rest)
next-is [] [] q passes = absurd (true≢false (sym passes))
next-is [] (name ∷ names) q passes = (names, ap (λ (n : List ℕ). n ∷ names) (sym (exact q name passes)))
next-is (name ∷ at) [] q passes = absurd (true≢false (sym passes))
next-is (name ∷ at) (other ∷ path) q passes = by (pointwise nat_eq name other) refl (next-is at path q) passes
  where
    by : (b : Bool) → pointwise nat_eq name other ≡ b → (gives q (next_name at path) ≡ true → (rest : Names) × (path ≡ at ++ q ∷ rest))
        → gives q (if b then next_name at path else None) ≡ true → (rest : Names) × (other ∷ path ≡ (name ∷ at) ++ q ∷ rest)
    by true same later passes = let found = later passes in (found.0, λ i. sym (same_text name other (sym same)) i ∷ found.1 i)
    by false same later passes = absurd (true≢false (sym passes))

next-of : (at : Names) (q : List ℕ) (rest : Names) → next_name at (at ++ q ∷ rest) ≡ Some q
next-of [] q rest = refl
next-of (name ∷ at) q rest = ap (λ b. if b then next_name at (at ++ q ∷ rest) else None) ((bytes_decides name name).1 refl) ∙ next-of at q rest

any-given : {X : Type 0} (h : X → Option (List ℕ)) (q : List ℕ) (xs : List X) → list_any (eq_by_cmp order q) (filter_map h xs) ≡ list_any (λ x. gives q (h x)) xs
any-given h q [] = refl
any-given {X = X} h q (x ∷ xs) = by (h x) (any-given h q xs)
  where
    by : (o : Option (List ℕ)) → list_any (eq_by_cmp order q) (filter_map h xs) ≡ list_any (λ (y : X). gives q (h y)) xs
        → list_any (eq_by_cmp order q) (cons_option o (filter_map h xs)) ≡ (gives q o || list_any (λ (y : X). gives q (h y)) xs)
    by None rest = rest
    by (Some name) rest = ap (λ b. eq_by_cmp order q name || b) rest

any-mapped : {X Y : Type 0} (f : X → Y) (test : Y → Bool) (xs : List X) → list_any test (map f xs) ≡ list_any (λ x. test (f x)) xs
any-mapped f test [] = refl
any-mapped f test (x ∷ xs) = ap (λ b. test (f x) || b) (any-mapped f test xs)

-- the names that a path's files go on with
abbrev listed : FileMap → Names → Names
listed files at = filter_map (next_name at) (fin.keys files)

any-listed : (files : FileMap) (at : Names) (q : List ℕ) → list_any (eq_by_cmp order q) (listed files at) ≡ list_any (λ entry. gives q (next_name at entry.0)) (fin.entries files)
any-listed files at q = any-given (next_name at) q (fin.keys files) ∙ any-mapped (λ entry. entry.0) (λ path. gives q (next_name at path)) (fin.entries files)

child-listed : (files : FileMap) (at : Names) (q : List ℕ) → IsChild files at q → list_any (eq_by_cmp order q) (listed files at) ≡ true
child-listed files at q child =
    let value = is_there (fin.get files (at ++ q ∷ child.0)) child.1 in
    any-listed files at q
    ∙ get-any path_total path_same (λ entry. gives q (next_name at entry.0)) files (at ++ q ∷ child.0) value.0 value.1 (ap (gives q) (next-of at q child.0) ∙ ap is_eq (tied_itself nat_list_cmp_total q))

listed-child : (files : FileMap) (at : Names) (q : List ℕ) → list_any (eq_by_cmp order q) (listed files at) ≡ true → IsChild files at q
listed-child files at q is =
    let found = any-get path_total path_same (λ entry. gives q (next_name at entry.0)) files (sym (any-listed files at q) ∙ is) in
    let next = next-is at found.0 q found.3 in
    (next.0, subst (λ (k : Names). IsSome (fin.get files k)) next.1 (subst IsSome (sym found.2) refl))

-- 3. The children are these names, each once and in order.

pub children-same : (files : FileMap) (at names : Names) → IsStrictlySortedBy order names → ((name : List ℕ) → Contains names name ↔ IsChild files at name) → names ≡ input_names files at
children-same files at names sorted has =
    sym (ap (map (λ e. e.0)) (entries-from_entries nat_list_cmp_total name_same (map named names) (rises names sorted)) ∙ keys-named names)
    ∙ ap fin.keys (fin.same_map nat_list_cmp_total name_same (fin.from_entries {R = order} (map named names)) (fin.from_entries {R = order} (map named (listed files at))) (λ q.
    get-any_of names q
    ∙ ap (λ b. cond b (Some (tt {0})) None) (same_tests (list_any (eq_by_cmp order q) names) (list_any (eq_by_cmp order q) (listed files at))
    (λ is. child-listed files at q ((has q).0 (Contains-from_any exact q names is)))
    (λ is. list_any-from_Contains (eq_by_cmp_equiv nat_list_cmp_total) q names ((has q).1 (listed-child files at q is))))
    ∙ sym (get-any_of (listed files at) q)))

front : (names rest : Names) → IsPath (names ++ rest) → IsPath names
front names rest path = subst IsPath (take-append_seam names rest) (IsPath-take (length names) (names ++ rest) path)

-- each is the name of a path
pub children-paths : (files : FileMap) (at names : Names) → IsInput files → ((name : List ℕ) → Contains names name ↔ IsChild files at name) → All (λ name. IsPath (at ++ name ∷ [])) names
children-paths files at names input has i d within =
    let name = get_or names i d in
    let child = (has name).0 (Contains-get_or names i d within) in
    front (at ++ name ∷ []) child.0 (subst IsPath (sym (rows at (name ∷ []) child.0)) (input.legal (at ++ name ∷ child.0) child.1))

-- 4. The same of a call that may be out of memory.

pub children-answer-same : {E : Type 0} (files : FileMap) (at : Names) (result : Result Names E) → IfOk result (λ names. IsStrictlySortedBy order names) → IfOk result (λ names. (name : List ℕ) → Contains names name ↔ IsChild files at name)
    → IfOk result (λ names. names ≡ input_names files at)
children-answer-same files at (Ok names) sorted has = children-same files at names sorted has
children-answer-same files at (Err memory) sorted has = tt

pub children-answer-paths : {E : Type 0} (files : FileMap) (at : Names) (result : Result Names E) → IsInput files → IfOk result (λ names. (name : List ℕ) → Contains names name ↔ IsChild files at name)
    → IfOk result (λ names. All (λ name. IsPath (at ++ name ∷ [])) names)
children-answer-paths files at (Ok names) input has = children-paths files at names input has
children-answer-paths files at (Err memory) input has = tt
