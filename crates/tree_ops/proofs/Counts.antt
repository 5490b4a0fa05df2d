-- What a change does to the counts of names.
use Rattle.std.proofs.Common.{ℕ, ◌+◌, ◌-◌, ◌≡◌, Bool, true, false, cond, Ordering, Equal, List, [], ◌∷◌, map, length, Some, None, refl, sym, ap, subst, ◌∙◌, arith}
use Rattle.std.specs.FinMap as fin
use Rattle.std.specs.FinMap.{FinMap, is_sorted}
use Rattle.std.specs.FinMap.Entries.{below_all}
use Rattle.std.specs.Prelude.{T, ◌&&◌}
use Rattle.std.specs.Ordering.{is_lt}
use Rattle.std.specs.List.{sum_by}
use Rattle.std.specs.Cmp.{IsTotalOrder, Equal-is}
use Rattle.std.specs.FinMap.{IsAntisymmetric}
use Rattle.std.proofs.lemmas.List.Sums.{sum_by-cons}
use Rattle.std.proofs.lemmas.Cmp.{tied_itself}
use Rattle.std.specs.Ordering.{eq_by_cmp, is_eq}
use Rattle.br_path.specs.Path.{Names, rooted_text, path_cmp}
use Rattle.br_path.proofs.PathOrder.{path_total, path_same}
use Rattle.tree_ops.specs.Pen.{Counts}
use Rattle.tree_ops.specs.declared.entry.Node.{Node}
use Rattle.tree_ops.specs.declared.entry.Label.{Label}
use Rattle.tree_ops.specs.Tree.{Tree}
use Rattle.tree_ops.specs.Change.{recounted, text_bytes, named, unnamed, relabelled, relabelled_node}
use Rattle.tree_ops.proofs.Inserts.{sum_by-entries_insert, len-insert_new}

-- one name more
pub recounted-more : (pen : Counts) (old new : Tree) (at : Names) → fin.len new.names ≡ fin.len old.names + 1 → text_bytes new ≡ length (rooted_text at) + text_bytes old → recounted pen old new ≡ named pen at
recounted-more pen old new at more texts =
    let names : pen.names + fin.len new.names - fin.len old.names ≡ pen.names + 1 = omega arith in
    let bytes : pen.path_bytes + text_bytes new - text_bytes old ≡ pen.path_bytes + length (rooted_text at) = omega arith in
    λ i. record pen { names = names i; path_bytes = bytes i }

-- as many
pub recounted-same : (pen : Counts) (old new : Tree) → fin.len new.names ≡ fin.len old.names → text_bytes new ≡ text_bytes old → recounted pen old new ≡ pen
recounted-same pen old new same texts =
    let names : pen.names + fin.len new.names - fin.len old.names ≡ pen.names = omega arith in
    let bytes : pen.path_bytes + text_bytes new - text_bytes old ≡ pen.path_bytes = omega arith in
    λ i. record pen { names = names i; path_bytes = bytes i }

-- one less
pub recounted-less : (pen : Counts) (old new : Tree) (at : Names) → fin.len old.names ≡ fin.len new.names + 1 → text_bytes old ≡ length (rooted_text at) + text_bytes new → recounted pen old new ≡ unnamed pen at
recounted-less pen old new at less texts =
    let names : pen.names + fin.len new.names - fin.len old.names ≡ pen.names - 1 = omega arith in
    let bytes : pen.path_bytes + text_bytes new - text_bytes old ≡ pen.path_bytes - length (rooted_text at) = omega arith in
    λ i. record pen { names = names i; path_bytes = bytes i }

-- a new name
pub recounted-insert : (pen : Counts) (old new : Tree) (at : Names) (node : Node) → fin.get old.names at ≡ None → new.names ≡ fin.insert old.names at node → recounted pen old new ≡ named pen at
recounted-insert pen old new at node none is =
    recounted-more pen old new at
    (ap fin.len is ∙ len-insert_new path_total old.names at node none)
    (ap (λ names. sum_by (λ entry. length (rooted_text entry.0)) (fin.entries names)) is ∙ sum_by-entries_insert path_total (λ entry. length (rooted_text entry.0)) old.names at node none)

module _ {K X : Type 0} {R : K → K → Ordering} (o : IsTotalOrder R) (same : IsAntisymmetric R) where
  -- what the key itself finds after it was taken away
  pub get-remove_same : (m : FinMap R X) (k : K) → fin.get (fin.remove m k) k ≡ None
  get-remove_same m k = fin.get-remove o m k k ∙ ap (λ r. cond (is_eq r) None (fin.get m k)) (tied_itself o k)

  put_again : (m : FinMap R X) (k : K) (v : X) → fin.get m k ≡ Some v → (q : K) (b : Bool) → eq_by_cmp R q k ≡ b → cond b (Some v) (cond b None (fin.get m q)) ≡ fin.get m q
  put_again m k v there q true is = sym (ap (fin.get m) (same q k (is_equal q k is)) ∙ there)
    where
      is_equal : (q k : K) → eq_by_cmp R q k ≡ true → R q k ≡ Equal
      is_equal q k is = (Equal-is (R q k)).0 is
  put_again m k v there q false is = refl

  -- what is taken away and put again
  pub insert-remove : (m : FinMap R X) (k : K) (v : X) → fin.get m k ≡ Some v → fin.insert (fin.remove m k) k v ≡ m
  insert-remove m k v there = fin.same_map o same _ _ (λ q.
      fin.get-insert o (fin.remove m k) k v q ∙ ap (cond (eq_by_cmp R q k) (Some v)) (fin.get-remove o m k q) ∙ put_again m k v there q (eq_by_cmp R q k) refl)

  -- a sorted list of entries is that of its map
  pub entries-from_entries : (es : List (K × X)) → T (is_sorted R es) → fin.entries (fin.from_entries {R = R} es) ≡ es
  entries-from_entries es sorted =
      ap fin.entries (fin.same_map o same _ _ (λ q. fin.get-from_entries o es q ∙ sym (fin.get-from_sorted R es q sorted))) ∙ fin.entries-from_sorted R es sorted

-- a name that is taken away
pub recounted-remove : (pen : Counts) (old new : Tree) (at : Names) (node : Node) → fin.get old.names at ≡ Some node → new.names ≡ fin.remove old.names at → recounted pen old new ≡ unnamed pen at
recounted-remove pen old new at node there is =
    let none = ap (λ names. fin.get names at) is ∙ get-remove_same path_total path_same old.names at in
    let back = sym (ap (λ names. fin.insert names at node) is ∙ insert-remove path_total path_same old.names at node there) in
    recounted-less pen old new at
    (ap fin.len back ∙ len-insert_new path_total new.names at node none)
    (ap (λ names. sum_by (λ entry. length (rooted_text entry.0)) (fin.entries names)) back ∙ sum_by-entries_insert path_total (λ entry. length (rooted_text entry.0)) new.names at node none)

module _ {K X : Type 0} (R : K → K → Ordering) (g : X → X) where
  abbrev mapped : List (K × X) → List (K × X)
  mapped es = map (λ e. (e.0, g e.1)) es

  below_all-mapped : (k : K) (es : List (K × X)) → below_all R k (mapped es) ≡ below_all R k es
  below_all-mapped k [] = refl
  below_all-mapped k (e ∷ es) = ap (λ b. is_lt (R k e.0) && b) (below_all-mapped k es)

  is_sorted-mapped : (es : List (K × X)) → is_sorted R (mapped es) ≡ is_sorted R es
  is_sorted-mapped [] = refl
  is_sorted-mapped (e ∷ es) = λ i. below_all-mapped e.0 es i && is_sorted-mapped es i

  length-mapped : (es : List (K × X)) → length (mapped es) ≡ length es
  length-mapped [] = refl
  length-mapped (e ∷ es) = omega (arith, length-mapped es)

  sum_by-mapped : (f : K → ℕ) (es : List (K × X)) → sum_by (λ e. f e.0) (mapped es) ≡ sum_by (λ e. f e.0) es
  sum_by-mapped f [] = refl
  sum_by-mapped f (e ∷ es) = sum_by-cons (λ e. f e.0) (e.0, g e.1) (mapped es) ∙ ap (λ n. f e.0 + n) (sum_by-mapped f es) ∙ sym (sum_by-cons (λ e. f e.0) e es)

-- names under another label
pub entries-relabelled : (from to : Label) (names : FinMap path_cmp Node) → fin.entries (relabelled from to names) ≡ map (λ e. (e.0, relabelled_node from to e.1)) (fin.entries names)
entries-relabelled from to names =
    entries-from_entries path_total path_same _ (subst T (sym (is_sorted-mapped path_cmp (relabelled_node from to) (fin.entries names))) (fin.entries_sorted names))

pub recounted-relabelled : (pen : Counts) (old new : Tree) (from to : Label) → new.names ≡ relabelled from to old.names → recounted pen old new ≡ pen
recounted-relabelled pen old new from to is =
    let listed = ap fin.entries is ∙ entries-relabelled from to old.names in
    recounted-same pen old new
    (fin.len-entries new.names ∙ ap length listed ∙ length-mapped path_cmp (relabelled_node from to) (fin.entries old.names) ∙ sym (fin.len-entries old.names))
    (ap (sum_by (λ entry. length (rooted_text entry.0))) listed ∙ sum_by-mapped path_cmp (relabelled_node from to) (λ name. length (rooted_text name)) (fin.entries old.names))
