-- What undoes a change.
use Rattle.std.proofs.Common.{◌≡◌, Bool, true, false, cond, Option, Some, None, Result, Ok, Err, OnOk, OnErr, is_some, refl, sym, ap, ◌∙◌}
use Rattle.std.specs.BTreeMap as tree
use Rattle.std.specs.BTreeMap.{BTreeMap, Updates, is_at}
use Rattle.std.specs.FinMap as fin
use Rattle.std.specs.FinMap.{FinMap}
use Rattle.std.specs.Ordering.{eq_by_cmp}
use Rattle.std.proofs.lemmas.Bool.{true≢false}
use Rattle.br_path.specs.Path.{Names}
use Rattle.br_path.proofs.Maps.{remove-insert, map-insert, get-entries_of}
use Rattle.br_path.proofs.PathOrder.{path_total, path_same}
use Rattle.tree_ops.specs.declared.entry.Contents.{Contents}
use Rattle.tree_ops.specs.declared.entry.Label.{Label}
use Rattle.tree_ops.specs.declared.entry.Node.{Node}
use Rattle.tree_ops.specs.Tree.{Tree, node_at, label_cmp}
use Rattle.tree_ops.proofs.Counts.{insert-remove}
use Rattle.tree_ops.proofs.Inserts.{get-insert_same}
use Rattle.tree_ops.proofs.Orders.{label_total, label_same}
use Rattle.tree_map.specs.Parts.{with_name, without_name, labels_of, set_back}

-- a name that is put where nothing stood and taken away leaves the tree
pub without_name-with_name : (tree : Tree) (at : Names) (node : Node) → node_at tree at ≡ None → without_name (with_name tree at node) at ≡ tree
without_name-with_name tree at node none i = record { names = remove-insert path_total path_same tree.names at node none i; labels = tree.labels }

-- so do steps between which nothing else changes
pub undone : (old named after new : Tree) (at : Names) (node : Node) → node_at old at ≡ None → named ≡ with_name old at node → after ≡ named → new ≡ without_name after at → new ≡ old
undone old named after new at node none put same taken = taken ∙ ap (λ (tree : Tree). without_name tree at) (same ∙ put) ∙ without_name-with_name old at node none

-- a label that stands for something takes other contents without fail
pub label-put : {A E : Type 0} (m n : BTreeMap Label Contents) (label : Label) (contents : Contents) (r : Result A E) → OnOk r (Updates label_cmp m n label (Some contents)) → OnErr r (tree.get label_cmp m label ≡ None)
    → is_some (tree.get label_cmp m label) ≡ true → labels_of n ≡ fin.insert (labels_of m) label contents
label-put m n label contents (Ok done) updates absent there = map-insert label_total label_same m n label contents updates.0
label-put m n label contents (Err failed) updates absent there = absurd (true≢false (sym there ∙ ap is_some absent))

pub put-is_there : (m n : BTreeMap Label Contents) (label : Label) (contents : Contents) → ((q : Label) → tree.get label_cmp n q ≡ cond (is_at (label_cmp label) q) (Some contents) (tree.get label_cmp m q)) → is_some (tree.get label_cmp n label) ≡ true
put-is_there m n label contents updates =
    ap is_some (sym (get-entries_of label_total n label) ∙ ap (λ (m : FinMap label_cmp Contents). fin.get m label) (map-insert label_total label_same m n label contents updates) ∙ get-insert_same label_total (labels_of m) label contents)

cond-again : {A : Type 0} (b : Bool) (x y z : A) → cond b x (cond b y z) ≡ cond b x z
cond-again true x y z = refl
cond-again false x y z = refl

-- a label that is put and set back leaves the labels
set_back-put : (labels : FinMap label_cmp Contents) (label : Label) (contents : Contents) (before : Option Contents) → before ≡ fin.get labels label → set_back (fin.insert labels label contents) label before ≡ labels
set_back-put labels label contents None is = remove-insert label_total label_same labels label contents (sym is)
set_back-put labels label contents (Some was) is = fin.same_map label_total label_same _ _ (λ q.
    fin.get-insert label_total (fin.insert labels label contents) label was q ∙ ap (cond (eq_by_cmp label_cmp q label) (Some was)) (fin.get-insert label_total labels label contents q)
    ∙ cond-again (eq_by_cmp label_cmp q label) (Some was) (Some contents) (fin.get labels q)
    ∙ sym (fin.get-insert label_total labels label was q))
    ∙ put-same
  where
    put-same : fin.insert labels label was ≡ labels
    put-same = sym (ap (λ (l : FinMap label_cmp Contents). fin.insert l label was) (insert-remove label_total label_same labels label was (sym is))) ∙ twice ∙ insert-remove label_total label_same labels label was (sym is)
      where
        twice : fin.insert (fin.insert (fin.remove labels label) label was) label was ≡ fin.insert (fin.remove labels label) label was
        twice = fin.same_map label_total label_same _ _ (λ q.
            fin.get-insert label_total (fin.insert (fin.remove labels label) label was) label was q ∙ ap (cond (eq_by_cmp label_cmp q label) (Some was)) (fin.get-insert label_total (fin.remove labels label) label was q)
            ∙ cond-again (eq_by_cmp label_cmp q label) (Some was) (Some was) (fin.get (fin.remove labels label) q)
            ∙ sym (fin.get-insert label_total (fin.remove labels label) label was q))

pub set_back-insert : (m n : BTreeMap Label Contents) (label : Label) (contents : Contents) (before : Option Contents)
    → ((q : Label) → tree.get label_cmp n q ≡ cond (is_at (label_cmp label) q) (Some contents) (tree.get label_cmp m q)) → before ≡ tree.get label_cmp m label → set_back (labels_of n) label before ≡ labels_of m
set_back-insert m n label contents before updates old =
    ap (λ (l : FinMap label_cmp Contents). set_back l label before) (map-insert label_total label_same m n label contents updates)
    ∙ set_back-put (labels_of m) label contents before (old ∙ sym (get-entries_of label_total m label))
