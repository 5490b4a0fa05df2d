-- Maps by the lists that they are built of.
use Rattle.std.proofs.Common.{◌+◌, ◌-◌, ◌≡◌, Bool, true, false, not, cond, List, ◌++◌, length, Option, None, Ordering, refl, sym, ap, ◌∙◌}
use Rattle.std.specs.FinMap as fin
use Rattle.std.specs.FinMap.{FinMap, IsAntisymmetric, find}
use Rattle.std.specs.FinMap.Entries.{where_key, find-where_key, is_sorted-where_key}
use Rattle.std.specs.Cmp.{IsTotalOrder, Equal-is}
use Rattle.std.specs.List.{sum_by}
use Rattle.std.specs.Option.{option_or}
use Rattle.std.specs.Ordering.{eq_by_cmp, is_eq}
use Rattle.std.proofs.lemmas.Cmp.{eq_by_cmp_equiv, tied_itself}
use Rattle.br_path.specs.Path.{Names, path_cmp, rooted_text}
use Rattle.br_path.proofs.Paths.{names_decide}
use Rattle.br_path.proofs.PathOrder.{path_total, path_same}
use Rattle.tree_ops.specs.Pen.{Counts}
use Rattle.tree_ops.specs.Tree.{Tree, laid}
use Rattle.tree_ops.specs.Change.{is_path, recounted, counted_anew}
use Rattle.tree_ops.proofs.Finds.{find-both, get-laid, get-kept}
use Rattle.tree_ops.proofs.Sound.{same_tests}
use Rattle.tree_map.specs.NameTable.{NameMap}

turned : {A : Type 0} (b : Bool) (x y : A) → cond (not b) x y ≡ cond b y x
turned true x y = refl
turned false x y = refl

both_chosen : {A : Type 0} (b : Bool) (x y : Option A) → option_or (cond b x None) (cond b y None) ≡ cond b (option_or x y) None
both_chosen true x y = refl
both_chosen false x y = refl

module _ {K X : Type 0} {R : K → K → Ordering} (o : IsTotalOrder R) (same : IsAntisymmetric R) where
  find-kept : (p : K → Bool) (q : K) (es : List (K × X)) → find R q (where_key R p es) ≡ cond (p q) (find R q es) None
  find-kept p q es = find-where_key R p q (λ x tied. ap p (sym (same q x tied))) es

  -- the entries that are left after a remove
  pub entries-removed : (m : FinMap R X) (k : K) → fin.entries (fin.remove m k) ≡ where_key R (λ x. not (eq_by_cmp R k x)) (fin.entries m)
  entries-removed m k =
      let p : K → Bool = λ x. not (eq_by_cmp R k x) in
      let sorted = is_sorted-where_key R p (fin.entries m) (fin.entries_sorted m) in
      ap fin.entries (fin.same_map o same (fin.remove m k) (fin.from_sorted (where_key R p (fin.entries m))) (λ q.
      fin.get-remove o m k q
      ∙ ap (λ b. cond b None (fin.get m q)) ((eq_by_cmp_equiv o).symm q k)
      ∙ sym (fin.get-from_sorted R (where_key R p (fin.entries m)) q sorted ∙ find-kept p q (fin.entries m) ∙ turned (eq_by_cmp R k q) (find R q (fin.entries m)) None ∙ ap (cond (eq_by_cmp R k q) None) (sym (fin.get-entries m q)))))
      ∙ fin.entries-from_sorted R (where_key R p (fin.entries m)) sorted

  -- a map laid over what is kept of another
  pub laid-listed : (high low : List (K × X)) (p : K → Bool) → fin.from_entries {R = R} (high ++ where_key R p low) ≡ laid (fin.retain_keys (fin.from_entries low) p) (fin.from_entries high)
  laid-listed high low p = fin.same_map o same _ _ (λ q.
      fin.get-from_entries o (high ++ where_key R p low) q ∙ find-both o same q high (where_key R p low)
      ∙ (λ i. option_or (sym (fin.get-from_entries o high q) i) ((find-kept p q low ∙ ap (λ f. cond (p q) f None) (sym (fin.get-from_entries o low q)) ∙ sym (get-kept o same (fin.from_entries low) p q)) i))
      ∙ sym (get-laid o same (fin.retain_keys (fin.from_entries low) p) (fin.from_entries high) q))

  -- a map is that of its entries
  pub whole : (m : FinMap R X) → fin.from_entries (fin.entries m) ≡ m
  whole m = fin.same_map o same _ _ (λ q. fin.get-from_entries o (fin.entries m) q ∙ sym (fin.get-entries m q))

  pub laid-entries : (low high : FinMap R X) (p : K → Bool) → fin.from_entries {R = R} (fin.entries high ++ where_key R p (fin.entries low)) ≡ laid (fin.retain_keys low p) high
  laid-entries low high p = laid-listed (fin.entries high) (fin.entries low) p ∙ (λ i. laid (fin.retain_keys (whole low i) p) (whole high i))

  -- what is kept of a map laid over another
  pub kept-listed : (high low : List (K × X)) (p : K → Bool) → fin.from_entries {R = R} (where_key R p high ++ where_key R p low) ≡ fin.retain_keys (laid (fin.from_entries low) (fin.from_entries high)) p
  kept-listed high low p = fin.same_map o same _ _ (λ q.
      fin.get-from_entries o (where_key R p high ++ where_key R p low) q ∙ find-both o same q (where_key R p high) (where_key R p low)
      ∙ (λ i. option_or (find-kept p q high i) (find-kept p q low i)) ∙ both_chosen (p q) (find R q high) (find R q low)
      ∙ ap (λ f. cond (p q) f None) (λ i. option_or (sym (fin.get-from_entries o high q) i) (sym (fin.get-from_entries o low q) i))
      ∙ ap (λ f. cond (p q) f None) (sym (get-laid o same (fin.from_entries low) (fin.from_entries high) q))
      ∙ sym (get-kept o same (laid (fin.from_entries low) (fin.from_entries high)) p q))

-- the tests whether two paths are one
pub path_tests : (a b : Names) → is_path a b ≡ eq_by_cmp path_cmp a b
path_tests a b = same_tests (is_path a b) (eq_by_cmp path_cmp a b)
    (λ is. ap (λ (b : Names). eq_by_cmp path_cmp a b) (sym ((names_decide a b).0 is)) ∙ ap is_eq (tied_itself path_total a))
    (λ is. (names_decide a b).1 (path_same a b ((Equal-is (path_cmp a b)).0 is)))

pub counted-anew : (pen : Counts) (old new : Tree) (m : NameMap) → new.names ≡ m
    → counted_anew pen (fin.len old.names, sum_by (λ entry. length (rooted_text entry.0)) (fin.entries old.names)) (fin.len m, sum_by (λ entry. length (rooted_text entry.0)) (fin.entries m)) ≡ recounted pen old new
counted-anew pen old new m is i =
    record pen { names = pen.names + fin.len (sym is i) - fin.len old.names; path_bytes = pen.path_bytes + sum_by (λ entry. length (rooted_text entry.0)) (fin.entries (sym is i)) - sum_by (λ entry. length (rooted_text entry.0)) (fin.entries old.names) }
