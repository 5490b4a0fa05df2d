-- Other tasks' contents stay as they are, or go.
use Rattle.std.proofs.Common.{ℕ, ◌≡◌, Bool, true, false, cond, Option, Some, None, Ok, refl, sym, ap, subst, ◌∙◌, inl, inr, ◌⊎◌, arith}
use Rattle.std.proofs.lemmas.Bool.{true≢false}
use Rattle.std.proofs.lemmas.Bool.Decides.{nat_tests}
use Rattle.std.specs.FinMap as fin
use Rattle.std.specs.FinMap.{FinMap}
use Rattle.std.specs.Ordering.{eq_by_cmp}
use Rattle.br_path.specs.Path.{Names, path_cmp}
use Rattle.tree_ops.specs.declared.entry.Contents.{Contents}
use Rattle.tree_ops.specs.declared.entry.Label.{Label}
use Rattle.tree_ops.specs.declared.entry.Node.{Node}
use Rattle.tree_ops.specs.declared.entry.Node.TheVariants.{Dir, Link, File}
use Rattle.tree_ops.specs.Pen.{Counts}
use Rattle.tree_ops.specs.Tree.{Tree, label_cmp, node_at, is_used}
use Rattle.tree_ops.specs.Change.{Change, MakeFile, Write, Append, SetMode, AddName, MakeLink, MakeDir, Remove, Rename, Populate, State, changed, tree_after, is_own, next_label, with_contents, written, with_mode, with_bytes, with_more, mode_set, named_again, dropped_unused, label_of, renamed, moved, is_path, contents_at}
use Rattle.tree_ops.proofs.Orders.{label_total, label_same}
use Rattle.tree_ops.proofs.Inserts.{get-insert_cases}
use Rattle.tree_ops.proofs.Outcomes.{after-changed}

-- a label's contents are as they were, or it has none any more
abbrev pub StaysOrGoes : FinMap label_cmp Contents → FinMap label_cmp Contents → Label → Type 0
StaysOrGoes old new label = (fin.get new label ≡ fin.get old label) ⊎ (fin.get new label ≡ None)

other_insert : (pen : Counts) (m : FinMap label_cmp Contents) (own label : Label) (c : Contents) → is_own pen own ≡ true → is_own pen label ≡ false → fin.get (fin.insert m own c) label ≡ fin.get m label
other_insert pen m own label c mine other = elim (get-insert_cases label_total label_same m own c label) [
  | inl found ↦ absurd (true≢false (sym mine ∙ sym (ap (is_own pen) found.0) ∙ other))
  | inr same ↦ same
]

gone : (m : FinMap label_cmp Contents) (k label : Label) → StaysOrGoes m (fin.remove m k) label
gone m k label = by (eq_by_cmp label_cmp label k) refl (fin.get-remove label_total m k label)
  where
    by : (b : Bool) → eq_by_cmp label_cmp label k ≡ b → fin.get (fin.remove m k) label ≡ cond (eq_by_cmp label_cmp label k) None (fin.get m label) → StaysOrGoes m (fin.remove m k) label
    by true is found = inr (found ∙ ap (λ b. cond b None (fin.get m label)) is)
    by false is found = inl (found ∙ ap (λ b. cond b None (fin.get m label)) is)

stays_on : (old mid new : FinMap label_cmp Contents) (label : Label) → fin.get mid label ≡ fin.get old label → StaysOrGoes mid new label → StaysOrGoes old new label
stays_on old mid new label same (inl stays) = inl (stays ∙ same)
stays_on old mid new label same (inr goes) = inr goes

pub next_own : (pen : Counts) → is_own pen (next_label pen) ≡ true
next_own pen = grind (arith, nat_tests)

-- which of two trees has the labels
labels_if : (b : Bool) (t u : Tree) → (cond b t u).labels ≡ cond b t.labels u.labels
labels_if true t u = refl
labels_if false t u = refl

stays_if : (old : FinMap label_cmp Contents) (b : Bool) (t u : FinMap label_cmp Contents) (label : Label) → (b ≡ true → StaysOrGoes old t label) → (b ≡ false → StaysOrGoes old u label) → StaysOrGoes old (cond b t u) label
stays_if old true t u label first second = first refl
stays_if old false t u label first second = second refl

with_contents-stays : (old : State) (l : Label) (c : Contents) (label : Label) → is_own old.1 label ≡ false → StaysOrGoes old.0.labels (with_contents old l c).labels label
with_contents-stays old l c label other =
    subst (λ labels. StaysOrGoes old.0.labels labels label) (sym (labels_if (is_own old.1 l) _ _))
    (stays_if old.0.labels (is_own old.1 l) _ _ label
    (λ is. inl (other_insert old.1 old.0.labels l label c is other))
    (λ is. stays_on old.0.labels (fin.insert old.0.labels (next_label old.1) c) _ label (other_insert old.1 old.0.labels (next_label old.1) label c (next_own old.1) other) (gone _ l label)))

written-stays : (old : State) (f : Contents → Contents) (node : Option Node) (label : Label) → is_own old.1 label ≡ false → StaysOrGoes old.0.labels (written old f node).labels label
written-stays old f None label other = inl refl
written-stays old f (Some (Dir mode)) label other = inl refl
written-stays old f (Some (Link text)) label other = inl refl
written-stays old f (Some (File l)) label other = with_contents-stays old l (f (contents_at old.0 l)) label other

mode_set-stays : (old : State) (at : Names) (mode : ℕ) (node : Option Node) (label : Label) → is_own old.1 label ≡ false → StaysOrGoes old.0.labels (mode_set old at mode node).labels label
mode_set-stays old at mode None label other = inl refl
mode_set-stays old at mode (Some (Dir m)) label other = inl refl
mode_set-stays old at mode (Some (Link text)) label other = inl refl
mode_set-stays old at mode (Some (File l)) label other = with_contents-stays old l (with_mode mode (contents_at old.0 l)) label other

named_again-stays : (tree : Tree) (at : Names) (node : Option Node) (label : Label) → StaysOrGoes tree.labels (named_again tree at node).labels label
named_again-stays tree at None label = inl refl
named_again-stays tree at (Some node) label = inl refl

dropped-stays : (names : FinMap path_cmp Node) (l : Option Label) (labels : FinMap label_cmp Contents) (label : Label) → StaysOrGoes labels (dropped_unused names l labels) label
dropped-stays names None labels label = inl refl
dropped-stays names (Some l) labels label = stays_if labels (is_used names l) _ _ label (λ _. inl refl) (λ _. gone labels l label)

renamed-stays : (tree : Tree) (old at : Names) (label : Label) → StaysOrGoes tree.labels (renamed tree old at).labels label
renamed-stays tree old at label =
    subst (λ labels. StaysOrGoes tree.labels labels label) (sym (labels_if (is_path old at) _ _))
    (stays_if tree.labels (is_path old at) _ _ label (λ _. inl refl) (λ _. dropped-stays (moved tree.names old at) (label_of (node_at tree at)) tree.labels label))

-- a change other than a filling
abbrev pub is_filling : Change → Bool
is_filling (Populate from) = true
is_filling other = false

pub stays-after : (change : Change) (old : State) (label : Label) → is_filling change ≡ false → is_own old.1 label ≡ false → StaysOrGoes old.0.labels (tree_after change old).labels label
stays-after (MakeFile at mode bytes) old label small other = inl (other_insert old.1 old.0.labels (next_label old.1) label (record { mode = mode; bytes = bytes }) (next_own old.1) other)
stays-after (Write at bytes) old label small other = written-stays old (with_bytes bytes) (node_at old.0 at) label other
stays-after (Append at bytes) old label small other = written-stays old (with_more bytes) (node_at old.0 at) label other
stays-after (SetMode at mode) old label small other = mode_set-stays old at mode (node_at old.0 at) label other
stays-after (AddName first at) old label small other = named_again-stays old.0 at (node_at old.0 first) label
stays-after (MakeLink at text) old label small other = inl refl
stays-after (MakeDir at mode) old label small other = inl refl
stays-after (Remove at) old label small other = dropped-stays (fin.remove old.0.names at) (label_of (node_at old.0 at)) old.0.labels label
stays-after (Rename first at) old label small other = renamed-stays old.0 first at label
stays-after (Populate from) old label small other = absurd (true≢false small)

-- the law: what a change that isn't refused does to the contents of other tasks' labels
pub foreign-stays : (change : Change) (old new : State) (label : Label) → is_filling change ≡ false → is_own old.1 label ≡ false → changed change old ≡ Ok new → StaysOrGoes old.0.labels new.0.labels label
foreign-stays change old new label small other is =
    subst (λ (state : State). StaysOrGoes old.0.labels state.0.labels label) (after-changed change old new is).2 (stays-after change old label small other)
