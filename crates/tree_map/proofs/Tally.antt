-- How many names each label has, as names come and go.
use Rattle.std.proofs.Common.{ℕ, ◌+◌, ◌-◌, ◌≡◌, ◌<◌, ◌≤◌, ◌==◌, ◌^◌, Bool, true, false, cond, ◌||◌, List, [], ◌∷◌, map, length, Option, Some, None, unwrap_or, is_some, refl, sym, ap, ◌∙◌, arith, zero-add}
use Rattle.std.specs.BTreeMap as tree
use Rattle.std.specs.BTreeMap.{BTreeMap, is_at}
use Rattle.std.specs.FinMap as fin
use Rattle.std.specs.Cmp.{Equal-is}
use Rattle.std.specs.List.{list_any, count_by}
use Rattle.std.specs.Map.{lookup}
use Rattle.std.specs.Ordering.{is_eq}
use Rattle.std.proofs.lemmas.Bool.{eqb-true}
use Rattle.std.proofs.lemmas.Bool.Decides.{nat_tests}
use Rattle.std.proofs.lemmas.Cmp.{eq_by_cmp_equiv, tied_itself}
use Rattle.std.proofs.lemmas.List.Sums.{sum_by-cons, count_by-le-length}
use Rattle.br_path.specs.Path.{Names, path_cmp}
use Rattle.br_path.proofs.Maps.{entries-of, get-entries_of, map-insert, map-remove}
use Rattle.br_path.proofs.PathOrder.{path_total, path_same}
use Rattle.tree_ops.specs.declared.entry.Label.{Label}
use Rattle.tree_ops.specs.declared.entry.Node.{Node}
use Rattle.tree_ops.specs.declared.entry.Node.TheVariants.{Dir, Link, File}
use Rattle.tree_ops.specs.Tree.{label_cmp, has_label, is_used}
use Rattle.tree_ops.specs.Change.{relabelled, relabelled_node}
use Rattle.tree_ops.proofs.Counts.{insert-remove, get-remove_same, entries-relabelled}
use Rattle.tree_ops.proofs.Inserts.{sum_by-entries_insert}
use Rattle.tree_ops.proofs.Orders.{label_total, label_same, eq_by_cmp-label_cmp}
use Rattle.tree_map.specs.NameTable.{NameMap, names_of, names_with, kept, IsTally, is_label, with_one, with_moved}
use Rattle.tree_map.proofs.Modes.{insert-again}

-- 1. Counts that are kept.

kept-some : (n : ℕ) → 0 < n → kept n ≡ Some n
kept-some n some = let test : (n == 0) ≡ false = grind (arith, nat_tests) in ap (λ b. cond b None (Some n)) test

kept-read : (n : ℕ) → unwrap_or (kept n) 0 ≡ n
kept-read n = by (n == 0) refl
  where
    by : (b : Bool) → (n == 0) ≡ b → unwrap_or (cond b None (Some n)) 0 ≡ n
    by true is = sym (eqb-true n 0 is)
    by false is = refl

-- what is read of the counts is the label's number
pub tally-read : (counts : BTreeMap Label ℕ) (numbers : Label → ℕ) (label : Label) → IsTally counts numbers → unwrap_or (tree.get label_cmp counts label) 0 ≡ numbers label
tally-read counts numbers label tally = ap (λ o. unwrap_or o 0) (tally label) ∙ kept-read (numbers label)

pub tally-same : (counts : BTreeMap Label ℕ) (numbers others : Label → ℕ) → ((label : Label) → numbers label ≡ others label) → IsTally counts numbers → IsTally counts others
tally-same counts numbers others same tally label = tally label ∙ ap kept (same label)

-- a label is another
label-is : (a b : Label) → is_label a b ≡ true → a ≡ b
label-is a b is = label_same a b ((Equal-is (label_cmp a b)).0 (eq_by_cmp-label_cmp a b ∙ is))

label-itself : (a : Label) → is_label a a ≡ true
label-itself a = sym (eq_by_cmp-label_cmp a a) ∙ ap is_eq (tied_itself label_total a)

flipped : (a b : Label) → is_label a b ≡ false → is_label b a ≡ false
flipped a b other = sym (eq_by_cmp-label_cmp b a) ∙ (eq_by_cmp_equiv label_total).symm b a ∙ eq_by_cmp-label_cmp a b ∙ other

at-label : (a q : Label) → is_at (label_cmp a) q ≡ is_label q a
at-label a q = (eq_by_cmp_equiv label_total).symm a q ∙ eq_by_cmp-label_cmp q a

-- a count is put, or taken away
module _ (old new : BTreeMap Label ℕ) (a : Label) (numbers : Label → ℕ) (count : ℕ) (is : count ≡ unwrap_or (tree.get label_cmp old a) 0) where
  abbrev Sets : Option ℕ → Type 0
  Sets value = (q : Label) → tree.get label_cmp new q ≡ cond (is_at (label_cmp a) q) value (tree.get label_cmp old q)

  set-at : (value : Option ℕ) (q : Label) → Sets value → tree.get label_cmp new q ≡ cond (is_label q a) value (tree.get label_cmp old q)
  set-at value q sets = sets q ∙ ap (λ b. cond b value (tree.get label_cmp old q)) (at-label a q)

  pub tally-up : Sets (Some (count + 1)) → IsTally old numbers → IsTally new (with_one (File a) numbers)
  tally-up sets tally q = set-at (Some (count + 1)) q sets ∙ by (is_label q a) refl
    where
      by : (b : Bool) → is_label q a ≡ b → cond b (Some (count + 1)) (tree.get label_cmp old q) ≡ kept (cond b 1 0 + numbers q)
      by true same =
          let read : count ≡ numbers q = is ∙ tally-read old numbers a tally ∙ ap numbers (sym (label-is q a same)) in
          let more : count + 1 ≡ 1 + numbers q = omega arith in
          ap Some more ∙ sym (kept-some (1 + numbers q) (omega arith))
      by false other = tally q ∙ ap kept (sym (zero-add (numbers q)))

  -- of a label that was counted
  module _ (tally : IsTally old (with_one (File a) numbers)) where
    counted : count ≡ 1 + numbers a
    counted = is ∙ tally-read old (with_one (File a) numbers) a tally ∙ ap (λ b. cond b 1 0 + numbers a) (label-itself a)

    other-label : (q : Label) → is_label q a ≡ false → tree.get label_cmp old q ≡ kept (numbers q)
    other-label q other = tally q ∙ ap (λ b. kept (cond b 1 0 + numbers q)) other ∙ ap kept (zero-add (numbers q))

    pub tally-down : Sets (Some (count - 1)) → 1 < count → IsTally new numbers
    tally-down sets more q = set-at (Some (count - 1)) q sets ∙ by (is_label q a) refl
      where
        by : (b : Bool) → is_label q a ≡ b → cond b (Some (count - 1)) (tree.get label_cmp old q) ≡ kept (numbers q)
        by true same =
            let here : numbers a ≡ numbers q = ap numbers (sym (label-is q a same)) in
            let all : count ≡ 1 + numbers a = counted in
            let less : count - 1 ≡ numbers q = omega arith in
            ap Some less ∙ sym (kept-some (numbers q) (omega arith))
        by false other = other-label q other

    pub tally-gone : Sets None → count ≤ 1 → IsTally new numbers
    tally-gone sets few q = set-at None q sets ∙ by (is_label q a) refl
      where
        by : (b : Bool) → is_label q a ≡ b → cond b None (tree.get label_cmp old q) ≡ kept (numbers q)
        by true same =
            let here : numbers a ≡ numbers q = ap numbers (sym (label-is q a same)) in
            let all : count ≡ 1 + numbers a = counted in
            let none : numbers q ≡ 0 = omega arith in
            sym (ap kept none)
        by false other = other-label q other

-- a node that is no file counts for nothing
other-none : (node : Node) (numbers : Label → ℕ) → ((label : Label) → has_label label node ≡ false) → (label : Label) → with_one node numbers label ≡ numbers label
other-none node numbers none label = ap (λ b. cond b 1 0 + numbers label) (none label) ∙ zero-add (numbers label)

pub tally-with_other : (counts : BTreeMap Label ℕ) (node : Node) (numbers : Label → ℕ) → ((label : Label) → has_label label node ≡ false) → IsTally counts numbers → IsTally counts (with_one node numbers)
tally-with_other counts node numbers none = tally-same counts numbers (with_one node numbers) (λ label. sym (other-none node numbers none label))

pub tally-without_other : (counts : BTreeMap Label ℕ) (node : Node) (numbers : Label → ℕ) → ((label : Label) → has_label label node ≡ false) → IsTally counts (with_one node numbers) → IsTally counts numbers
tally-without_other counts node numbers none = tally-same counts (with_one node numbers) numbers (other-none node numbers none)

-- all names of a label are counted as another's
module _ (old : BTreeMap Label ℕ) (from to : Label) (numbers : Label → ℕ) (count : ℕ) (apart : is_label from to ≡ false) (is : count ≡ unwrap_or (tree.get label_cmp old from) 0) (tally : IsTally old numbers) where
  -- if there are none, nothing changes
  pub tally-unmoved : count ≤ 0 → IsTally old (with_moved from to numbers)
  tally-unmoved few q = tally q ∙ ap kept (by (is_label q from) (is_label q to) refl refl)
    where
      none : numbers from ≡ 0
      none = let read : count ≡ numbers from = is ∙ tally-read old numbers from tally in omega arith

      by : (m n : Bool) → is_label q from ≡ m → is_label q to ≡ n → numbers q ≡ cond m 0 (cond n (numbers from + numbers to) (numbers q))
      by true n here there = ap numbers (label-is q from here) ∙ none
      by false true here there = let equal : numbers q ≡ numbers to = ap numbers (label-is q to there) in let zero = none in omega arith
      by false false here there = refl

  pub tally-moved : (new after : BTreeMap Label ℕ) (other : ℕ) → other ≡ unwrap_or (tree.get label_cmp old to) 0 → 0 < count
      → ((q : Label) → tree.get label_cmp new q ≡ cond (is_at (label_cmp to) q) (Some (count + other)) (tree.get label_cmp old q))
      → ((q : Label) → tree.get label_cmp after q ≡ cond (is_at (label_cmp from) q) None (tree.get label_cmp new q))
      → IsTally after (with_moved from to numbers)
  tally-moved new after other reads some puts takes q =
      takes q ∙ (λ i. cond (at-label from q i) None ((puts q ∙ ap (λ b. cond b (Some (count + other)) (tree.get label_cmp old q)) (at-label to q)) i)) ∙ by (is_label q from) (is_label q to)
    where
      by : (m n : Bool) → cond m None (cond n (Some (count + other)) (tree.get label_cmp old q)) ≡ kept (cond m 0 (cond n (numbers from + numbers to) (numbers q)))
      by true n = refl
      by false true =
          let one : count ≡ numbers from = is ∙ tally-read old numbers from tally in
          let two : other ≡ numbers to = reads ∙ tally-read old numbers to tally in
          (λ i. Some (one i + two i)) ∙ sym (kept-some (numbers from + numbers to) (omega arith))
      by false false = tally q

-- 2. The names of a table.

-- a name more
pub counted-insert : (m : NameMap) (at : Names) (node : Node) → fin.get m at ≡ None → (label : Label) → names_with (fin.insert m at node) label ≡ with_one node (names_with m) label
counted-insert m at node none label = sum_by-entries_insert path_total (λ entry. cond (has_label label entry.1) 1 0) m at node none

-- a name less
pub counted-remove : (m : NameMap) (at : Names) (node : Node) → fin.get m at ≡ Some node → (label : Label) → names_with m label ≡ with_one node (names_with (fin.remove m at)) label
counted-remove m at node there label =
    ap (λ (m : NameMap). names_with m label) (sym (insert-remove path_total path_same m at node there)) ∙ counted-insert (fin.remove m at) at node (get-remove_same path_total path_same m at) label

-- a name that is put in place of another
with-swap : (a b n : ℕ) → a + (b + n) ≡ b + (a + n)
with-swap a b n = omega arith

pub counted-replace : (m : NameMap) (at : Names) (was node : Node) → fin.get m at ≡ Some was → (label : Label) → with_one node (names_with m) label ≡ with_one was (names_with (fin.insert m at node)) label
counted-replace m at was node there label =
    let left = fin.remove m at in
    ap (λ n. cond (has_label label node) 1 0 + n) (counted-remove m at was there label)
    ∙ with-swap (cond (has_label label node) 1 0) (cond (has_label label was) 1 0) (names_with left label)
    ∙ ap (λ n. cond (has_label label was) 1 0 + n) (sym (ap (λ (m : NameMap). names_with m label) (insert-again m at node) ∙ counted-insert left at node (get-remove_same path_total path_same m at) label))

-- a label is used where a count is kept for it
used-kept : {E : Type 0} (test : E → Bool) (es : List E) → is_some (kept (count_by test es)) ≡ list_any test es
used-kept test [] = refl
used-kept {E = E} test (e ∷ es) = ap (λ n. is_some (kept n)) (sum_by-cons (λ e. cond (test e) 1 0) e es) ∙ by (test e) (used-kept test es)
  where
    by : (b : Bool) → is_some (kept (count_by test es)) ≡ list_any test es → is_some (kept (cond b 1 0 + count_by test es)) ≡ (b || list_any test es)
    by true rest = ap is_some (kept-some (1 + count_by test es) (omega arith))
    by false rest = ap (λ n. is_some (kept n)) (zero-add (count_by test es)) ∙ rest

pub used-counted : (m : NameMap) (counts : BTreeMap Label ℕ) (label : Label) → IsTally counts (names_with m) → is_some (tree.get label_cmp counts label) ≡ is_used m label
used-counted m counts label tally = ap is_some (tally label) ∙ used-kept (λ entry. has_label label entry.1) (fin.entries m)

-- no label has more names than there are
pub few-counted : (m : BTreeMap Names Node) (counts : BTreeMap Label ℕ) (all : ℕ) → all ≡ tree.btree_map_len m → all < 2 ^ 63 → tree.IsOrdered path_cmp m → IsTally counts (names_with (names_of m)) → (label : Label) → unwrap_or (tree.get label_cmp counts label) 0 < 2 ^ 63
few-counted m counts all is small ordered tally label =
    let read : unwrap_or (tree.get label_cmp counts label) 0 ≡ names_with (names_of m) label = tally-read counts (names_with (names_of m)) label tally in
    let entries : length (fin.entries (names_of m)) ≡ length m.entries = ap length (entries-of path_total m ordered) in
    let few : names_with (names_of m) label ≤ length (fin.entries (names_of m)) = count_by-le-length (λ entry. has_label label entry.1) (fin.entries (names_of m)) in
    omega arith

-- names under another label
module _ (from to : Label) (apart : is_label from to ≡ false) where
  moved-one : (node : Node) (label : Label) → cond (has_label label (relabelled_node from to node)) 1 0 ≡ with_moved from to (λ label. cond (has_label label node) 1 0) label
  moved-one (Dir mode) label = by (is_label label from) (is_label label to)
    where
      by : (m n : Bool) → 0 ≡ cond m 0 (cond n (0 + 0) 0)
      by true n = refl
      by false true = refl
      by false false = refl
  moved-one (Link text) label = by (is_label label from) (is_label label to)
    where
      by : (m n : Bool) → 0 ≡ cond m 0 (cond n (0 + 0) 0)
      by true n = refl
      by false true = refl
      by false false = refl
  moved-one (File own) label = by (is_label from own) (is_label label from) (is_label label to) refl refl refl
    where
      by : (k m n : Bool) → is_label from own ≡ k → is_label label from ≡ m → is_label label to ≡ n
          → cond (has_label label (cond k (File to) (File own))) 1 0 ≡ cond m 0 (cond n (cond k 1 0 + cond (is_label to own) 1 0) (cond (is_label label own) 1 0))
      by true true n same here there = ap (λ b. cond b 1 0) (ap (λ (l : Label). is_label l to) (label-is label from here) ∙ apart)
      by true false true same here there =
          let other : is_label to own ≡ false = ap (is_label to) (sym (label-is from own same)) ∙ flipped from to apart in
          ap (λ b. cond b 1 0) there ∙ ap (λ b. 1 + cond b 1 0) (sym other)
      by true false false same here there = ap (λ b. cond b 1 0) there ∙ ap (λ b. cond b 1 0) (sym (ap (is_label label) (sym (label-is from own same)) ∙ here))
      by false true n same here there = ap (λ b. cond b 1 0) (ap (λ (l : Label). is_label l own) (label-is label from here) ∙ same)
      by false false true same here there = ap (λ (l : Label). cond (is_label l own) 1 0) (label-is label to there) ∙ sym (zero-add (cond (is_label to own) 1 0))
      by false false false same here there = refl

  moved-more : (a b : Label → ℕ) (label : Label) → with_moved from to a label + with_moved from to b label ≡ with_moved from to (λ label. a label + b label) label
  moved-more a b label = by (is_label label from) (is_label label to)
    where
      by : (m n : Bool) → cond m 0 (cond n (a from + a to) (a label)) + cond m 0 (cond n (b from + b to) (b label)) ≡ cond m 0 (cond n ((a from + b from) + (a to + b to)) (a label + b label))
      by true n = refl
      by false true = omega arith
      by false false = refl

  abbrev counted-in : List (Names × Node) → Label → ℕ
  counted-in es label = count_by (λ entry. has_label label entry.1) es

  moved-all : (es : List (Names × Node)) (label : Label) → counted-in (map (λ entry. (entry.0, relabelled_node from to entry.1)) es) label ≡ with_moved from to (counted-in es) label
  moved-all [] label = by (is_label label from) (is_label label to)
    where
      by : (m n : Bool) → 0 ≡ cond m 0 (cond n (0 + 0) 0)
      by true n = refl
      by false true = refl
      by false false = refl
  moved-all (e ∷ es) label =
      sum_by-cons (λ entry. cond (has_label label entry.1) 1 0) (e.0, relabelled_node from to e.1) (map (λ entry. (entry.0, relabelled_node from to entry.1)) es)
      ∙ (λ i. moved-one e.1 label i + moved-all es label i)
      ∙ moved-more (λ label. cond (has_label label e.1) 1 0) (counted-in es) label
      ∙ (λ i. with_moved from to (λ label. sym (sum_by-cons (λ entry. cond (has_label label entry.1) 1 0) e es) i) label)

  pub counted-relabelled : (m : NameMap) (label : Label) → with_moved from to (names_with m) label ≡ names_with (relabelled from to m) label
  counted-relabelled m label = sym (ap (λ (es : List (Names × Node)). counted-in es label) (entries-relabelled from to m) ∙ moved-all (fin.entries m) label)

-- 3. Counts of names that come and go.

pub tally-same_names : (m n : BTreeMap Names Node) → n.entries ≡ m.entries → (counts : BTreeMap Label ℕ) → IsTally counts (names_with (names_of m)) → IsTally counts (names_with (names_of n))
tally-same_names m n same counts = tally-same counts (names_with (names_of m)) (names_with (names_of n)) (λ label. ap (λ (es : List (Names × Node)). names_with (fin.from_entries es) label) (sym same))

pub tally-empty : (m : BTreeMap Names Node) (counts : BTreeMap Label ℕ) → m.entries ≡ [] → tree.IsOrdered path_cmp m → counts.entries ≡ [] → IsTally counts (names_with (names_of m))
tally-empty m counts no_names ordered no_counts label =
    ap (lookup (is_at (label_cmp label))) no_counts ∙ sym (ap (λ es. kept (count_by (λ entry. has_label label entry.1) es)) (entries-of path_total m ordered ∙ no_names))

module _ (m n : BTreeMap Names Node) (at : Names) (node : Node) (updates : (q : Names) → tree.get path_cmp n q ≡ cond (is_at (path_cmp at) q) (Some node) (tree.get path_cmp m q)) where
  inserted : names_of n ≡ fin.insert (names_of m) at node
  inserted = map-insert path_total path_same m n at node updates

  pub tally-inserted : (counts : BTreeMap Label ℕ) → None ≡ tree.get path_cmp m at → IsTally counts (with_one node (names_with (names_of m))) → IsTally counts (names_with (names_of n))
  tally-inserted counts none = tally-same counts (with_one node (names_with (names_of m))) (names_with (names_of n)) (λ label.
      sym (ap (λ (m : NameMap). names_with m label) inserted ∙ counted-insert (names_of m) at node (get-entries_of path_total m at ∙ sym none) label))

  pub tally-replaced : (counts : BTreeMap Label ℕ) (was : Node) → Some was ≡ tree.get path_cmp m at → IsTally counts (with_one node (names_with (names_of m))) → IsTally counts (with_one was (names_with (names_of n)))
  tally-replaced counts was there = tally-same counts (with_one node (names_with (names_of m))) (with_one was (names_with (names_of n))) (λ label.
      counted-replace (names_of m) at was node (get-entries_of path_total m at ∙ sym there) label ∙ ap (λ (m : NameMap). with_one was (names_with m) label) (sym inserted))

pub tally-removed : (m n : BTreeMap Names Node) (at : Names) (was : Node) (counts : BTreeMap Label ℕ) → ((q : Names) → tree.get path_cmp n q ≡ cond (is_at (path_cmp at) q) None (tree.get path_cmp m q)) → Some was ≡ tree.get path_cmp m at
    → IsTally counts (names_with (names_of m)) → IsTally counts (with_one was (names_with (names_of n)))
tally-removed m n at was counts updates there = tally-same counts (names_with (names_of m)) (with_one was (names_with (names_of n))) (λ label.
    counted-remove (names_of m) at was (get-entries_of path_total m at ∙ sym there) label ∙ ap (λ (m : NameMap). with_one was (names_with m) label) (sym (map-remove path_total path_same m n at updates)))

pub tally-relabelled : (m n : BTreeMap Names Node) (from to : Label) (counts : BTreeMap Label ℕ) → is_label from to ≡ false → names_of n ≡ relabelled from to (names_of m) → IsTally counts (with_moved from to (names_with (names_of m))) → IsTally counts (names_with (names_of n))
tally-relabelled m n from to counts apart is = tally-same counts (with_moved from to (names_with (names_of m))) (names_with (names_of n)) (λ label.
    counted-relabelled from to apart (names_of m) label ∙ ap (λ (m : NameMap). names_with m label) (sym is))
