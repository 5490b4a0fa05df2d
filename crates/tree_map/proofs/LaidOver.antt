-- A tree laid over another that it agrees with.
use Rattle.std.proofs.Common.{ℕ, ◌+◌, ◌-◌, ◌≡◌, ◌==◌, Bool, true, false, not, cond, List, length, Option, Some, None, nat_eq, refl, sym, ap, ◌∙◌, arith}
use Rattle.std.specs.FinMap as fin
use Rattle.std.specs.FinMap.{FinMap}
use Rattle.std.specs.Cmp.Lexicographic.{pointwise, bytes_decides}
use Rattle.std.specs.Option.{option_or}
use Rattle.std.specs.List.{sum_by}
use Rattle.std.proofs.lemmas.Bool.{and_parts, eqb-true, true≢false}
use Rattle.br_path.specs.Path.{Names, rooted_text}
use Rattle.br_path.proofs.PathOrder.{path_total, path_same}
use Rattle.tree_ops.specs.declared.entry.Contents.{Contents}
use Rattle.tree_ops.specs.declared.entry.Label.{Label}
use Rattle.tree_ops.specs.declared.entry.Node.{Node}
use Rattle.tree_ops.specs.declared.entry.Node.TheVariants.{Dir, Link, File}
use Rattle.tree_ops.specs.Pen.{Counts}
use Rattle.tree_ops.specs.Tree.{Tree, IsTree, node_at, is_dir, is_leaf, is_hidden, is_used, label_cmp, laid, over}
use Rattle.tree_ops.specs.Change.{counted_anew, recounted}
use Rattle.tree_ops.proofs.Finds.{get-laid, get-kept}
use Rattle.tree_ops.proofs.Growing.{dir_there}
use Rattle.tree_ops.proofs.Hiding.{hidden-below}
use Rattle.tree_ops.proofs.Orders.{label_total, label_same}
use Rattle.tree_ops.proofs.Sound.{IsSound, sound-of, dir-above, at-used, has_label-is}
use Rattle.tree_map.specs.Lacking.{AreLacking, lacking, clash, with_keys, is_node, is_contents}
use Rattle.tree_map.specs.NameTable.{NameMap}
use Rattle.tree_map.proofs.Lacked.{agreed, counted-lacking, with_keys-laid}

-- 1. Nodes and contents that are the same.

pub node_is : (a b : Node) → is_node a b ≡ true → a ≡ b
node_is (Dir mode) (Dir other) is = ap Dir (eqb-true mode other is)
node_is (Dir mode) (Link text) is = absurd (true≢false (sym is))
node_is (Dir mode) (File label) is = absurd (true≢false (sym is))
node_is (Link text) (Dir mode) is = absurd (true≢false (sym is))
node_is (Link text) (Link other) is = ap Link ((bytes_decides text other).0 is)
node_is (Link text) (File label) is = absurd (true≢false (sym is))
node_is (File label) (Dir mode) is = absurd (true≢false (sym is))
node_is (File label) (Link text) is = absurd (true≢false (sym is))
node_is (File label) (File other) is = sym (has_label-is label (File other) is)

pub contents_are : (a b : Contents) → is_contents a b ≡ true → a ≡ b
contents_are a b is =
    let parts = and_parts (a.mode == b.mode) (pointwise nat_eq a.bytes b.bytes) is in
    λ i. record { mode = eqb-true a.mode b.mode parts.0 i; bytes = (bytes_decides a.bytes b.bytes).0 parts.1 i }

-- 2. What is laid over hides nothing, and all labels are used.

leaf_there : (node : Option Node) → is_leaf node ≡ true → (n : Node) × (node ≡ Some n)
leaf_there None is = absurd (true≢false (sym is))
leaf_there (Some n) is = (n, refl)

no_dir : (n : Node) → is_dir (Some n) ≡ true → is_leaf (Some n) ≡ true → ⊥
no_dir (Dir mode) dir leaf = true≢false (sym leaf)
no_dir (Link text) dir leaf = true≢false (sym dir)
no_dir (File label) dir leaf = true≢false (sym dir)

nothing : {A : Type 0} (b : Bool) (x : Option A) → x ≡ None → cond b x None ≡ x
nothing true x is = refl
nothing false x is = sym is

false-of : (b : Bool) → (b ≡ true → ⊥) → b ≡ false
false-of true never = absurd (never refl)
false-of false never = refl

module _ (low high : Tree) (l : IsSound low) (h : IsSound high) (none : clash is_node low.names (fin.entries high.names) ≡ false) where
  same_node : (q : Names) (x y : Node) → node_at low q ≡ Some x → node_at high q ≡ Some y → x ≡ y
  same_node = agreed path_total path_same is_node node_is low.names high.names none

  shown-all : (q : Names) (n : Node) → node_at low q ≡ Some n → is_hidden high q ≡ false
  shown-all q n there = false-of (is_hidden high q) (λ hidden.
      let (head, name, rest, is, leaf) = (hidden-below high q).0 hidden in
      let folder : is_dir (node_at low head) ≡ true = dir-above low l head name rest n (ap (node_at low) (sym is) ∙ there) in
      let below = dir_there (node_at low head) folder in
      let above = leaf_there (node_at high head) leaf in
      no_dir below.0 (sym (ap is_dir below.1) ∙ folder) (ap (λ n. is_leaf (Some n)) (same_node head below.0 above.0 below.1 above.1) ∙ sym (ap is_leaf above.1) ∙ leaf))

  kept-all : fin.retain_keys low.names (λ at. not (is_hidden high at)) ≡ low.names
  kept-all = fin.same_map path_total path_same _ _ (λ q. get-kept path_total path_same low.names (λ at. not (is_hidden high at)) q ∙ by q (node_at low q) refl)
    where
      by : (q : Names) (node : Option Node) → node_at low q ≡ node → cond (not (is_hidden high q)) (node_at low q) None ≡ node_at low q
      by q None is = nothing (not (is_hidden high q)) (node_at low q) is
      by q (Some n) is = ap (λ b. cond (not b) (node_at low q) None) (shown-all q n is)

  abbrev all : NameMap
  all = laid low.names high.names

  high-all : (q : Names) (n : Node) → node_at high q ≡ Some n → fin.get all q ≡ Some n
  high-all q n there = get-laid path_total path_same low.names high.names q ∙ ap (λ o. option_or o (node_at low q)) there

  low-all : (q : Names) (n : Node) → node_at low q ≡ Some n → fin.get all q ≡ Some n
  low-all q n there = get-laid path_total path_same low.names high.names q ∙ by (node_at high q) refl
    where
      by : (node : Option Node) → node_at high q ≡ node → option_or node (node_at low q) ≡ Some n
      by None is = there
      by (Some m) is = ap Some (sym (same_node q n m there is))

  abbrev labels : FinMap label_cmp Contents
  labels = laid low.labels high.labels

  used-all : (label : Label) (c : Contents) → fin.get labels label ≡ Some c → is_used all label ≡ true
  used-all label c there = by (fin.get high.labels label) refl (sym (get-laid label_total label_same low.labels high.labels label) ∙ there)
    where
      by : (o : Option Contents) → fin.get high.labels label ≡ o → option_or o (fin.get low.labels label) ≡ Some c → is_used all label ≡ true
      by (Some x) is found = let at = h.named label x is in at-used all label at.0 (high-all at.0 (File label) at.1)
      by None is found = let at = l.named label c found in at-used all label at.0 (low-all at.0 (File label) at.1)

  labels-all : labels ≡ fin.retain_keys labels (is_used all)
  labels-all = fin.same_map label_total label_same _ _ (λ q. by q (fin.get labels q) refl ∙ sym (get-kept label_total label_same labels (is_used all) q))
    where
      by : (q : Label) (o : Option Contents) → fin.get labels q ≡ o → fin.get labels q ≡ cond (is_used all q) (fin.get labels q) None
      by q None is = sym (nothing (is_used all q) (fin.get labels q) is)
      by q (Some c) is = ap (λ b. cond b (fin.get labels q) None) (sym (used-all q c is))

  pub over-agreed : record { names = all; labels = labels } ≡ over low high
  over-agreed =
      let names : all ≡ laid (fin.retain_keys low.names (λ at. not (is_hidden high at))) high.names = ap (λ (m : NameMap). laid m high.names) (sym kept-all) in
      λ i. record { names = names i; labels = (labels-all ∙ ap (λ (m : NameMap). fin.retain_keys labels (is_used m)) names) i }

-- 3. With what a tree lacks added, another is laid over it.

module _ (low high : Tree) where
  pub names-lacked : (paths : List Names) → clash is_node low.names (fin.entries high.names) ≡ false → paths ≡ lacking low.names (fin.entries high.names) → with_keys paths high.names low.names ≡ laid low.names high.names
  names-lacked paths none lacked = ap (λ (ps : List Names). with_keys ps high.names low.names) lacked ∙ with_keys-laid path_total path_same is_node node_is low.names high.names none

  pub over-lacked : (paths : List Names) (labels : List Label) → IsTree low → IsTree high → AreLacking low high paths labels → record { names = with_keys paths high.names low.names; labels = with_keys labels high.labels low.labels } ≡ over low high
  over-lacked paths labels l h are =
      let names = names-lacked paths are.same_nodes are.names_lacked in
      let stand : with_keys labels high.labels low.labels ≡ laid low.labels high.labels =
      ap (λ (ls : List Label). with_keys ls high.labels low.labels) are.labels_lacked ∙ with_keys-laid label_total label_same is_contents contents_are low.labels high.labels are.same_contents in
      (λ i. record { names = names i; labels = stand i }) ∙ over-agreed low high (sound-of low l) (sound-of high h) are.same_nodes

  -- how many names there are then
  pub counted-lacked : (pen : Counts) (new : Tree) (paths : List Names) → clash is_node low.names (fin.entries high.names) ≡ false → paths ≡ lacking low.names (fin.entries high.names) → new.names ≡ laid low.names high.names
      → counted_anew pen (0, 0) (length paths, sum_by (λ at. length (rooted_text at)) paths) ≡ recounted pen low new
  counted-lacked pen new paths none lacked is =
      let text : Names → ℕ = λ at. length (rooted_text at) in
      let whole : new.names ≡ with_keys (lacking low.names (fin.entries high.names)) high.names low.names = is ∙ sym (with_keys-laid path_total path_same is_node node_is low.names high.names none) in
      let counts = counted-lacking path_total path_same text low.names high.names in
      let names : fin.len new.names ≡ fin.len low.names + length paths = ap (λ (m : NameMap). fin.len m) whole ∙ counts.0 ∙ ap (λ (ps : List Names). fin.len low.names + length ps) (sym lacked) in
      let texts : sum_by (λ entry. length (rooted_text entry.0)) (fin.entries new.names) ≡ sum_by (λ entry. length (rooted_text entry.0)) (fin.entries low.names) + sum_by text paths =
      ap (λ (m : NameMap). sum_by (λ entry. length (rooted_text entry.0)) (fin.entries m)) whole ∙ counts.1 ∙ ap (λ (ps : List Names). sum_by (λ entry. length (rooted_text entry.0)) (fin.entries low.names) + sum_by text ps) (sym lacked) in
      λ i. record pen { names = risen pen.names (fin.len low.names) (length paths) (fin.len new.names) names i; path_bytes = risen pen.path_bytes (sum_by (λ entry. length (rooted_text entry.0)) (fin.entries low.names)) (sum_by text paths) (sum_by (λ entry. length (rooted_text entry.0)) (fin.entries new.names)) texts i }
    where
      risen : (n was more is : ℕ) → is ≡ was + more → n + more - 0 ≡ n + is - was
      risen n was more is same = omega arith

  pub over-names : (paths : List Names) (own : List Label) → IsTree low → IsTree high → AreLacking low high paths own → (over low high).names ≡ laid low.names high.names
  over-names paths own l h are = ap (λ (tree : Tree). tree.names) (sym (over-agreed low high (sound-of low l) (sound-of high h) are.same_nodes))
