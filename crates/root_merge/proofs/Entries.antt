-- The entries of the makes by path are the paths that some package wrote, each with the makes that wrote it.
use Rattle.std.proofs.Common.{ℕ, ◌≡◌, Bool, true, false, cond, ◌&&◌, ◌||◌, List, [], ◌∷◌, ◌++◌, map, Option, Some, None, Ordering, refl, sym, ap, subst, ◌∙◌}
use Rattle.std.specs.Prelude.{T, is_some, filter, flat_map}
use Rattle.std.specs.BTreeMap.{BTreeMap, IsOrdered}
use Rattle.std.specs.Cmp.{IsTotalOrder, Equal-is, eq_by_cmp_equiv}
use Rattle.std.specs.Cmp.Lexicographic.{lists_ties, texts_ties, slice_cmp}
use Rattle.std.specs.FinMap as fin
use Rattle.std.specs.FinMap.{FinMap, IsAntisymmetric, is_sorted, find}
use Rattle.std.specs.FinMap.Entries.{below_all}
use Rattle.std.specs.List.{list_any, filter_map, cons_option}
use Rattle.std.specs.Option.{option_map}
use Rattle.std.specs.Ordering.{nat_cmp, eq_by_cmp, is_lt}
use Rattle.br_path.specs.Path.{Names, path_cmp}
use Rattle.br_path.specs.declared.area.Area.{Area}
use Rattle.br_path.proofs.Maps.{entries-of}
use Rattle.br_path.proofs.PathOrder.{path_total, path_same}
use Rattle.tree_ops.specs.Change.{is_path}
use Rattle.task_shelves.specs.declared.overwrites.Overwrite.{Overwrite}
use Rattle.task_shelves.specs.Packages.{Left, is_area, has_written, wrote}
use Rattle.root_merge.specs.Overwrites.{path_in, paths_of, paths_written, is_overwritten, overwrite_at, overwrites_in}
use Rattle.root_merge.specs.Found.{Makes, makes_at, some_makes, AreWriters, overwrite_if}

module _ {K X Y : Type 0} {R : K → K → Ordering} (o : IsTotalOrder R) (same : IsAntisymmetric R) (f : K → X) where
  -- the keys of some entries, with other values
  abbrev pub valued : List (K × Y) → List (K × X)
  valued es = map (λ (e : K × Y). (e.0, f e.0)) es

  below-valued : (k : K) (es : List (K × Y)) → below_all R k (valued es) ≡ below_all R k es
  below-valued k [] = refl
  below-valued k (e ∷ es) = ap (λ b. is_lt (R k e.0) && b) (below-valued k es)

  sorted-valued : (es : List (K × Y)) → is_sorted R (valued es) ≡ is_sorted R es
  sorted-valued [] = refl
  sorted-valued (e ∷ es) = (λ i. below-valued e.0 es i && sorted-valued es i)

  find-valued : (q : K) (es : List (K × Y)) → find R q (valued es) ≡ option_map (λ _. f q) (find R q es)
  find-valued q [] = refl
  find-valued q (e ∷ es) = by (find-valued q es) (eq_by_cmp R q e.0) refl
    where
      by : find R q (valued es) ≡ option_map (λ _. f q) (find R q es) → (b : Bool) → eq_by_cmp R q e.0 ≡ b → cond b (Some (f e.0)) (find R q (valued es)) ≡ option_map (λ _. f q) (cond b (Some e.1) (find R q es))
      by rest true tied = ap (λ (k : K). Some (f k)) (sym (same q e.0 ((Equal-is (R q e.0)).0 tied)))
      by rest false other = rest

  entries-valued : (m : FinMap R X) (n : FinMap R Y) → ((q : K) → fin.get m q ≡ option_map (λ _. f q) (fin.get n q)) → fin.entries m ≡ valued (fin.entries n)
  entries-valued m n is =
      let rises : T (is_sorted R (valued (fin.entries n))) = subst T (sym (sorted-valued (fin.entries n))) (fin.entries_sorted n) in
      let maps : m ≡ fin.from_sorted {R = R} (valued (fin.entries n)) =
      fin.same_map o same m (fin.from_sorted (valued (fin.entries n))) (λ q. is q
      ∙ ap (option_map (λ _. f q)) (fin.get-entries n q)
      ∙ sym (find-valued q (fin.entries n))
      ∙ sym (fin.get-from_sorted R (valued (fin.entries n)) q rises)) in
      ap (λ (m : FinMap R X). fin.entries m) maps ∙ fin.entries-from_sorted R (valued (fin.entries n)) rises

  valued-keys : (es : List (K × Y)) → valued es ≡ map (λ (k : K). (k, f k)) (map (λ (e : K × Y). e.0) es)
  valued-keys [] = refl
  valued-keys (e ∷ es) = ap (λ (l : List (K × X)). (e.0, f e.0) ∷ l) (valued-keys es)

  -- a map that has just the keys of another has their values in order
  pub entries-by : (m : FinMap R X) (n : FinMap R Y) → ((q : K) → fin.get m q ≡ option_map (λ _. f q) (fin.get n q)) → fin.entries m ≡ map (λ (k : K). (k, f k)) (fin.keys n)
  entries-by m n is = entries-valued m n is ∙ valued-keys (fin.entries n)

or_assoc : (a b c : Bool) → ((a || b) || c) ≡ (a || (b || c))
or_assoc true b c = refl
or_assoc false b c = refl

tie : (path q : Names) → eq_by_cmp path_cmp q path ≡ is_path path q
tie path q = sym ((eq_by_cmp_equiv path_total).symm path q) ∙ sym (lists_ties (slice_cmp nat_cmp) texts_ties path q)

some-cond : {X : Type 0} (b : Bool) (x : X) (o : Option X) → is_some (cond b (Some x) o) ≡ (b || is_some o)
some-cond true x o = refl
some-cond false x o = refl

-- a path stands among those of an area just where the package wrote it
some-paths_of : (area : Area) (q : Names) (written : List (Area × Names)) → is_some (find path_cmp q (filter_map (λ pair. path_in (is_area pair.0 area) pair.1) written)) ≡ has_written area q written
some-paths_of area q [] = refl
some-paths_of area q (pair ∷ written) = by _ (some-paths_of area q written) (is_area pair.0 area)
  where
    by : (others : List (Names × Unit {0})) → is_some (find path_cmp q others) ≡ has_written area q written
        → (b : Bool) → is_some (find path_cmp q (cons_option (path_in b pair.1) others)) ≡ (b && is_path pair.1 q || has_written area q written)
    by others rest true = some-cond (eq_by_cmp path_cmp q pair.1) tt (find path_cmp q others) ∙ (λ i. tie pair.1 q i || rest i)
    by others rest false = rest

some-append : (q : Names) (xs ys : List (Names × Unit {0})) → is_some (find path_cmp q (xs ++ ys)) ≡ (is_some (find path_cmp q xs) || is_some (find path_cmp q ys))
some-append q [] ys = refl
some-append q (x ∷ xs) ys =
    some-cond (eq_by_cmp path_cmp q x.0) x.1 (find path_cmp q (xs ++ ys))
    ∙ ap (λ b. eq_by_cmp path_cmp q x.0 || b) (some-append q xs ys)
    ∙ sym (or_assoc (eq_by_cmp path_cmp q x.0) (is_some (find path_cmp q xs)) (is_some (find path_cmp q ys)))
    ∙ ap (λ b. b || is_some (find path_cmp q ys)) (sym (some-cond (eq_by_cmp path_cmp q x.0) x.1 (find path_cmp q xs)))

some-written : (area : Area) (q : Names) (packages : List Left) → is_some (find path_cmp q (flat_map (paths_of area) packages)) ≡ list_any (wrote area q) packages
some-written area q [] = refl
some-written area q (left ∷ packages) = some-append q (paths_of area left) (flat_map (paths_of area) packages) ∙ (λ i. some-paths_of area q left.written i || some-written area q packages i)

some-makes : (area : Area) (q : Names) (packages : List Left) → some_makes (makes_at area packages q) ≡ cond (list_any (wrote area q) packages) (Some (makes_at area packages q)) None
some-makes area q [] = refl
some-makes area q (left ∷ packages) = by (some-makes area q packages) (wrote area q left)
  where
    by : some_makes (makes_at area packages q) ≡ cond (list_any (wrote area q) packages) (Some (makes_at area packages q)) None
        → (b : Bool) → some_makes (map (λ (l : Left). l.task) (cond b (left ∷ filter (wrote area q) packages) (filter (wrote area q) packages)))
        ≡ cond (b || list_any (wrote area q) packages) (Some (map (λ (l : Left). l.task) (cond b (left ∷ filter (wrote area q) packages) (filter (wrote area q) packages)))) None
    by rest true = refl
    by rest false = rest

by-unit : {X : Type 0} (x : X) (o : Option (Unit {0})) → cond (is_some o) (Some x) None ≡ option_map (λ _. x) o
by-unit x None = refl
by-unit x (Some u) = refl

-- a path with the makes that wrote it
abbrev pub made_at : Area → List Left → Names → Names × List ℕ
made_at area packages path = (path, makes_at area packages path)

pub entries-are : (area : Area) (packages : List Left) (makes : Makes) → AreWriters area packages makes → fin.entries makes ≡ map (made_at area packages) (paths_written area packages)
entries-are area packages makes are =
    let paths : FinMap path_cmp (Unit {0}) = fin.from_entries {R = path_cmp} (flat_map (paths_of area) packages) in
    entries-by path_total path_same (makes_at area packages) makes (fin.from_entries {R = path_cmp} (flat_map (paths_of area) packages)) (λ q.
    are q
    ∙ some-makes area q packages
    ∙ ap (λ b. cond b (Some (makes_at area packages q)) None) (sym (some-written area q packages))
    ∙ by-unit (makes_at area packages q) (find path_cmp q (flat_map (paths_of area) packages))
    ∙ ap (option_map (λ _. makes_at area packages q)) (sym (fin.get-from_entries path_total (flat_map (paths_of area) packages) q)))

-- the overwritten paths, one after another
pub overwrites-one_by_one : (area : Area) (packages : List Left) (paths : List Names) → flat_map (overwrite_if area packages) paths ≡ map (overwrite_at area packages) (filter (is_overwritten area packages) paths)
overwrites-one_by_one area packages [] = refl
overwrites-one_by_one area packages (path ∷ paths) = by (overwrites-one_by_one area packages paths) (is_overwritten area packages path)
  where
    by : flat_map (overwrite_if area packages) paths ≡ map (overwrite_at area packages) (filter (is_overwritten area packages) paths)
        → (b : Bool) → cond b (overwrite_at area packages path ∷ []) [] ++ flat_map (overwrite_if area packages) paths ≡ map (overwrite_at area packages) (cond b (path ∷ filter (is_overwritten area packages) paths) (filter (is_overwritten area packages) paths))
    by rest true = ap (λ (l : List Overwrite). overwrite_at area packages path ∷ l) rest
    by rest false = rest

-- the paths of entries
abbrev pub paths_in : List (Names × List ℕ) → List Names
paths_in entries = map (λ (e : Names × List ℕ). e.0) entries

pub paths-made : (area : Area) (packages : List Left) (paths : List Names) → paths_in (map (made_at area packages) paths) ≡ paths
paths-made area packages [] = refl
paths-made area packages (path ∷ paths) = ap (λ (l : List Names). path ∷ l) (paths-made area packages paths)

-- all entries are still to come
pub all_to_come : (area : Area) (packages : List Left) (m : BTreeMap Names (List ℕ)) (makes : Makes) (items : List Overwrite) (to_come : List (Names × List ℕ))
    → to_come ≡ m.entries → IsOrdered path_cmp m → fin.from_entries {R = path_cmp} m.entries ≡ makes → AreWriters area packages makes
    → (items ++ flat_map (overwrite_if area packages) (paths_in to_come) ≡ items ++ overwrites_in area packages) × (to_come ≡ map (made_at area packages) (paths_in to_come))
all_to_come area packages m makes items to_come come ordered shown are =
    let made : to_come ≡ map (made_at area packages) (paths_written area packages) =
    come ∙ sym (entries-of path_total m ordered) ∙ ap (λ (l : Makes). fin.entries l) shown ∙ entries-are area packages makes are in
    let paths : paths_in to_come ≡ paths_written area packages = ap paths_in made ∙ paths-made area packages (paths_written area packages) in (
      ap (λ (l : List Names). items ++ flat_map (overwrite_if area packages) l) paths ∙ ap (λ (l : List Overwrite). items ++ l) (overwrites-one_by_one area packages (paths_written area packages)),
      made ∙ ap (map (made_at area packages)) (sym paths),
    )
