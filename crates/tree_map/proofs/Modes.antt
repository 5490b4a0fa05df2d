-- The mode of a folder.
use Rattle.std.proofs.Common.{ℕ, ◌+◌, ◌≡◌, Bool, true, false, cond, length, Option, Some, None, Ok, Err, refl, sym, ap, ◌∙◌}
use Rattle.std.specs.FinMap as fin
use Rattle.std.specs.FinMap.{FinMap}
use Rattle.std.specs.List.{sum_by}
use Rattle.std.specs.Ordering.{eq_by_cmp}
use Rattle.br_path.specs.Path.{Names, path_cmp, rooted_text}
use Rattle.br_path.proofs.PathOrder.{path_total, path_same}
use Rattle.tree_ops.specs.declared.change.ChangeFault.TheVariants.{NoSpace}
use Rattle.tree_ops.specs.declared.entry.Node.{Node}
use Rattle.tree_ops.specs.declared.entry.Node.TheVariants.{Dir, Link, File}
use Rattle.tree_ops.specs.declared.pen.Pen.{Pen}
use Rattle.tree_ops.specs.Tree.{Tree, node_at, is_dir}
use Rattle.tree_ops.specs.Pen.{Counts, counts_of, with_counts, within_limits}
use Rattle.tree_ops.specs.Change.{SetMode, State, seen, IsChange, tree_after, pen_after, mode_fault, mode_set, drawn, spent, is_foreign, count_if, size_at, recounted}
use Rattle.tree_ops.proofs.Counts.{recounted-same, get-remove_same, insert-remove}
use Rattle.tree_ops.proofs.Inserts.{sum_by-entries_insert, len-insert_new}
use Rattle.tree_ops.proofs.Changed.{IsChange-ok, IsChange-full}
use Rattle.tree_map.specs.Parts.{with_name, uncounted}
use Rattle.tree_map.proofs.Made.{uncharged}

cond-cond : {A : Type 0} (b : Bool) (x y z : A) → cond b x (cond b y z) ≡ cond b x z
cond-cond true x y z = refl
cond-cond false x y z = refl

dir_there : (node : Option Node) → is_dir node ≡ true → (mode : ℕ) × (node ≡ Some (Dir mode))
dir_there None is = cc
dir_there (Some (Dir mode)) is = (mode, refl)
dir_there (Some (Link text)) is = cc
dir_there (Some (File label)) is = cc

-- an insert at a path that has a node, as one after a remove
pub insert-again : (m : FinMap path_cmp Node) (at : Names) (node : Node) → fin.insert m at node ≡ fin.insert (fin.remove m at) at node
insert-again m at node = fin.same_map path_total path_same _ _ (λ q.
    fin.get-insert path_total m at node q
    ∙ sym (fin.get-insert path_total (fin.remove m at) at node q ∙ ap (cond (eq_by_cmp path_cmp q at) (Some node)) (fin.get-remove path_total m at q) ∙ cond-cond (eq_by_cmp path_cmp q at) (Some node) None (fin.get m q)))

recounted-again : (pen : Counts) (old : Tree) (at : Names) (was node : Node) → fin.get old.names at ≡ Some was → recounted pen old (with_name old at node) ≡ pen
recounted-again pen old at was node there =
    let left = fin.remove old.names at in
    let none = get-remove_same path_total path_same old.names at in
    let back : fin.insert left at was ≡ old.names = insert-remove path_total path_same old.names at was there in
    recounted-same pen old (with_name old at node)
    (ap fin.len (insert-again old.names at node) ∙ len-insert_new path_total left at node none ∙ sym (ap fin.len (sym back) ∙ len-insert_new path_total left at was none))
    (ap (λ names. sum_by (λ entry. length (rooted_text entry.0)) (fin.entries names)) (insert-again old.names at node) ∙ sum_by-entries_insert path_total (λ entry. length (rooted_text entry.0)) left at node none
    ∙ sym (ap (λ names. sum_by (λ entry. length (rooted_text entry.0)) (fin.entries names)) (sym back) ∙ sum_by-entries_insert path_total (λ entry. length (rooted_text entry.0)) left at was none))

dir-tree : (old : State) (at : Names) (mode was : ℕ) → node_at old.0 at ≡ Some (Dir was) → tree_after (SetMode at mode) old ≡ with_name old.0 at (Dir mode)
dir-tree old at mode was there = ap (mode_set old at mode) there

dir-pen : (old : State) (at : Names) (mode was : ℕ) → node_at old.0 at ≡ Some (Dir was) → pen_after (SetMode at mode) old ≡ old.1
dir-pen old at mode was there =
    let kept : recounted old.1 old.0 (tree_after (SetMode at mode) old) ≡ old.1 = ap (recounted old.1 old.0) (dir-tree old at mode was there) ∙ recounted-again old.1 old.0 at (Dir was) (Dir mode) there in
    let draws : drawn (SetMode at mode) old ≡ 0 = ap (λ node. count_if (is_foreign old.1 node) 1) there in
    let spends : spent (SetMode at mode) old ≡ 0 = ap (λ node. count_if (is_foreign old.1 node) (size_at old.0 node)) there in
    (λ i. record (kept i) { next = old.1.next + draws i; bytes = old.1.bytes + spends i }) ∙ uncharged old.1

pub dir_mode-ok : (old : Tree × Pen) (at : Names) (mode : ℕ) (new : Tree) (after : Pen) → is_dir (node_at old.0 at) ≡ true → within_limits (with_counts old.1 (counts_of old.1)) ≡ Some after → new ≡ with_name old.0 at (Dir mode) → IsChange uncounted (SetMode at mode) old (Ok tt) (new, after)
dir_mode-ok old at mode new after dir fits made =
    let there = dir_there (node_at old.0 at) dir in
    IsChange-ok uncounted (SetMode at mode) old new (counts_of old.1) after refl (ap mode_fault there.1) (dir-pen (seen old) at mode there.0 there.1) (dir-tree (seen old) at mode there.0 there.1 ∙ sym made) fits

pub dir_mode-full : (old : Tree × Pen) (at : Names) (mode : ℕ) → is_dir (node_at old.0 at) ≡ true → within_limits (with_counts old.1 (counts_of old.1)) ≡ None → IsChange uncounted (SetMode at mode) old (Err NoSpace) old
dir_mode-full old at mode dir full =
    let there = dir_there (node_at old.0 at) dir in
    IsChange-full uncounted (SetMode at mode) old (with_name old.0 at (Dir mode)) (counts_of old.1) (ap mode_fault there.1) (dir-pen (seen old) at mode there.0 there.1) (dir-tree (seen old) at mode there.0 there.1) full
