-- What a change of contents or mode through a name reaches.
use Rattle.std.proofs.Common.{◌≡◌, ◌≢◌, inl, inr, Bool, true, false, cond, Option, Some, None, Ok, refl, sym, ap, subst, ◌∙◌}
use Rattle.std.specs.FinMap as fin
use Rattle.std.specs.Option.{option_map}
use Rattle.std.proofs.lemmas.Bool.{true≢false}
use Rattle.std.proofs.lemmas.Option.{same_Some}
use Rattle.br_path.specs.Path.{Names}
use Rattle.tree_ops.specs.declared.entry.Label.{Label}
use Rattle.tree_ops.specs.declared.entry.Contents.{Contents}
use Rattle.tree_ops.specs.declared.entry.Node.{Node}
use Rattle.tree_ops.specs.declared.entry.Node.TheVariants.{Dir, Link, File}
use Rattle.tree_ops.specs.Tree.{Tree, node_at, has_label}
use Rattle.tree_ops.specs.Change.{Change, MakeFile, Write, Append, SetMode, AddName, MakeLink, MakeDir, Remove, Rename, Populate, State, changed, tree_after, is_own, next_label, contents_at, with_contents, written, with_bytes, with_more, mode_set, relabelled, relabelled_node}
use Rattle.tree_ops.specs.Laws.{rewritten_at, rewritten, IsInPlace, IsAnew}
use Rattle.tree_ops.proofs.Orders.{label_total, label_same}
use Rattle.tree_ops.proofs.Inserts.{get-insert_cases, get-insert_same}
use Rattle.tree_ops.proofs.Counts.{get-remove_same}
use Rattle.tree_ops.proofs.Finds.{get-left}
use Rattle.tree_ops.proofs.Foreign.{next_own}
use Rattle.tree_ops.proofs.Growing.{get-relabelled}
use Rattle.tree_ops.proofs.Outcomes.{after-changed}
use Rattle.tree_ops.proofs.Sound.{has_label-is, is-has_label}

-- the tree after such a change: the file's other contents
tree-rewritten : (change : Change) (at : Names) (label : Label) (old : State) → rewritten_at change ≡ Some at → node_at old.0 at ≡ Some (File label)
    → tree_after change old ≡ with_contents old label (rewritten change (contents_at old.0 label))
tree-rewritten (Write path bytes) at label old is there = ap (written old (with_bytes bytes)) (ap (node_at old.0) (same_Some path at is) ∙ there)
tree-rewritten (Append path bytes) at label old is there = ap (written old (with_more bytes)) (ap (node_at old.0) (same_Some path at is) ∙ there)
tree-rewritten (SetMode path mode) at label old is there = ap (mode_set old path mode) (ap (node_at old.0) (same_Some path at is) ∙ there)
tree-rewritten (MakeFile path mode bytes) at label old is there = cc
tree-rewritten (AddName first path) at label old is there = cc
tree-rewritten (MakeLink path text) at label old is there = cc
tree-rewritten (MakeDir path mode) at label old is there = cc
tree-rewritten (Remove path) at label old is there = cc
tree-rewritten (Rename first path) at label old is there = cc
tree-rewritten (Populate from) at label old is there = cc

abbrev by_owner : State → Label → Contents → Bool → Tree
by_owner old label contents own = cond own (record old.0 { labels = fin.insert old.0.labels label contents })
    (record { names = relabelled label (next_label old.1) old.0.names; labels = fin.remove (fin.insert old.0.labels (next_label old.1) contents) label })

new-rewritten : (change : Change) (at : Names) (label : Label) (old new : State) (own : Bool) → rewritten_at change ≡ Some at → node_at old.0 at ≡ Some (File label) → is_own old.1 label ≡ own → changed change old ≡ Ok new
    → by_owner old label (rewritten change (contents_at old.0 label)) own ≡ new.0
new-rewritten change at label old new own is there owner done =
    sym (tree-rewritten change at label old is there ∙ ap (by_owner old label (rewritten change (contents_at old.0 label))) owner) ∙ ap (λ (s : State). s.0) (after-changed change old new done).2

pub in_place : (change : Change) (at : Names) (label : Label) (old new : State) → rewritten_at change ≡ Some at → node_at old.0 at ≡ Some (File label) → is_own old.1 label ≡ true → changed change old ≡ Ok new
    → IsInPlace label (rewritten change (contents_at old.0 label)) old.0 new.0
in_place change at label old new is there own done =
    let contents = rewritten change (contents_at old.0 label) in
    subst (IsInPlace label contents old.0) (new-rewritten change at label old new true is there own done) (record {
      names = refl;
      contents = get-insert_same label_total old.0.labels label contents;
      others = λ other apart. elim (get-insert_cases label_total label_same old.0.labels label contents other) [ inl found ↦ absurd (apart found.0) | inr same ↦ same ];
    })

-- nodes under another label
file-relabelled : (from to : Label) → relabelled_node from to (File from) ≡ File to
file-relabelled from to = ap (λ b. cond b (File to) (File from)) (is-has_label from)

node-relabelled : (from to : Label) (node : Node) → node ≢ File from → relabelled_node from to node ≡ node
node-relabelled from to (Dir mode) other = refl
node-relabelled from to (Link text) other = refl
node-relabelled from to (File label) other = by (has_label from (File label)) refl
  where
    by : (b : Bool) → has_label from (File label) ≡ b → cond (has_label from (File label)) (File to) (File label) ≡ File label
    by true has = absurd (other (has_label-is from (File label) has))
    by false has = ap (λ b. cond b (File to) (File label)) has

stays-relabelled : (from to : Label) (node : Option Node) → node ≢ Some (File from) → option_map (relabelled_node from to) node ≡ node
stays-relabelled from to None other = refl
stays-relabelled from to (Some node) other = ap Some (node-relabelled from to node (λ same. other (ap Some same)))

pub anew : (change : Change) (at : Names) (label : Label) (old new : State) → rewritten_at change ≡ Some at → node_at old.0 at ≡ Some (File label) → is_own old.1 label ≡ false → changed change old ≡ Ok new
    → IsAnew label (next_label old.1) (rewritten change (contents_at old.0 label)) old.0 new.0
anew change at label old new is there foreign done =
    let contents = rewritten change (contents_at old.0 label) in
    let next = next_label old.1 in
    let apart : next ≡ label → ⊥ = λ same. true≢false (sym (next_own old.1) ∙ ap (is_own old.1) same ∙ foreign) in
    subst (IsAnew label next contents old.0) (new-rewritten change at label old new false is there foreign done) (record {
      moved = λ path stands. get-relabelled label next old.0.names path ∙ ap (option_map (relabelled_node label next)) stands ∙ ap Some (file-relabelled label next);
      others = λ path other. get-relabelled label next old.0.names path ∙ stays-relabelled label next (node_at old.0 path) other;
      gone = get-remove_same label_total label_same (fin.insert old.0.labels next contents) label;
      contents = get-left label_total label_same (fin.insert old.0.labels next contents) label next apart ∙ get-insert_same label_total old.0.labels next contents;
      rest = λ other not_label not_next. get-left label_total label_same (fin.insert old.0.labels next contents) label other not_label
          ∙ elim (get-insert_cases label_total label_same old.0.labels next contents other) [ inl found ↦ absurd (not_next found.0) | inr same ↦ same ];
    })
