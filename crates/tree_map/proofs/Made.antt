-- Which change the parts of a call make up.
use Rattle.std.proofs.Common.{ℕ, ◌+◌, List, [], length, ◌≡◌, Bool, false, not, Option, Some, None, Ok, Err, refl, sym, ap, ◌∙◌, arith}
use Rattle.std.specs.Option.{option_or, is_some}
use Rattle.br_path.specs.Path.{Names, parent_of}
use Rattle.tree_ops.specs.declared.change.ChangeFault.TheVariants.{Present, NoSpace, TooLong, Outside}
use Rattle.tree_ops.specs.declared.entry.Label.{Label}
use Rattle.tree_ops.specs.declared.entry.Node.{Node}
use Rattle.tree_ops.specs.declared.entry.Node.TheVariants.{Dir, Link, File}
use Rattle.tree_ops.specs.declared.pen.Pen.{Pen}
use Rattle.tree_ops.specs.Tree.{Tree, node_at, over}
use Rattle.tree_ops.specs.Pen.{Counts, counts_of, with_counts, within_limits}
use Rattle.tree_ops.specs.Change.{MakeFile, Append, SetMode, mode_fault, mode_set, written, with_more, with_mode, drawn, spent, is_foreign, size_at, labelled, next_label, MakeDir, MakeLink, Remove, Populate, remove_fault, label_of, unnamed, is_path, Write, AddName, tree_after, named_again, fault_of, State, seen, IsChange, new_name_fault, parent_fault, fault_if, is_too_long, named, charged, count_if, is_own, with_contents, with_bytes, contents_at, recounted, pen_after, file_fault}
use Rattle.tree_ops.proofs.Counts.{recounted-insert, recounted-remove}
use Rattle.tree_ops.proofs.Changed.{recounted-with_contents, IsChange-ok, IsChange-full, tree_after-write, pen_after-write}
use Rattle.tree_map.specs.Parts.{with_label, with_name, without_name, without_gone, uncounted}

plus_zero : (n : ℕ) → n + 0 ≡ n
plus_zero n = omega arith

second_none : {A : Type 0} (a b : Option A) → option_or a b ≡ None → b ≡ None
second_none None b is = is
second_none (Some x) b is = cc

absent : (node : Option Node) → fault_if (is_some node) Present ≡ None → node ≡ None
absent None is = refl
absent (Some node) is = cc

first_none : {A : Type 0} (a b : Option A) → option_or a b ≡ None → a ≡ None
first_none None b is = refl
first_none (Some x) b is = cc

-- where a new name can stand, nothing stands
pub free : (tree : Tree) (at : Names) → new_name_fault tree at ≡ None → node_at tree at ≡ None
free tree at is = absent (node_at tree at) (first_none (fault_if (is_some (node_at tree at)) Present) (fault_if (is_too_long at) TooLong) (second_none (parent_fault tree (parent_of at)) _ is))

pen-made_dir : (old : State) (at : Names) (mode : ℕ) → new_name_fault old.0 at ≡ None → pen_after (MakeDir at mode) old ≡ named old.1 at
pen-made_dir old at mode none =
    let counted = recounted-insert old.1 old.0 (with_name old.0 at (Dir mode)) at (Dir mode) (free old.0 at none) refl in
    λ i. record (counted i) { next = plus_zero old.1.next i; bytes = plus_zero old.1.bytes i }

pub made_dir-ok : (old : Tree × Pen) (at : Names) (mode : ℕ) (new : Tree) (after : Pen) → new_name_fault old.0 at ≡ None → within_limits (with_counts old.1 (named (counts_of old.1) at)) ≡ Some after
    → new ≡ with_name old.0 at (Dir mode) → IsChange uncounted (MakeDir at mode) old (Ok tt) (new, after)
made_dir-ok old at mode new after none fits made = IsChange-ok uncounted (MakeDir at mode) old new (named (counts_of old.1) at) after refl none (pen-made_dir (seen old) at mode none) (sym made) fits

pub made_dir-full : (old : Tree × Pen) (at : Names) (mode : ℕ) → new_name_fault old.0 at ≡ None → within_limits (with_counts old.1 (named (counts_of old.1) at)) ≡ None → IsChange uncounted (MakeDir at mode) old (Err NoSpace) old
made_dir-full old at mode none full = IsChange-full uncounted (MakeDir at mode) old (with_name old.0 at (Dir mode)) (named (counts_of old.1) at) none (pen-made_dir (seen old) at mode none) refl full

pub written-ok : (old : Tree × Pen) (at : Names) (bytes : List ℕ) (label : Label) (new : Tree) (after : Pen) (draws : Bool) → node_at old.0 at ≡ Some (File label)
    → draws ≡ not (is_own (counts_of old.1) label) → within_limits (with_counts old.1 (charged (counts_of old.1) (count_if draws 1) (length bytes))) ≡ Some after
    → new ≡ with_contents (seen old) label (with_bytes bytes (contents_at old.0 label)) → IsChange uncounted (Write at bytes) old (Ok tt) (new, after)
written-ok old at bytes label new after draws there foreign fits made =
    IsChange-ok uncounted (Write at bytes) old new (charged (counts_of old.1) (count_if draws 1) (length bytes)) after refl (ap file_fault there)
    (pen_after-write (seen old) at bytes label there ∙ ap (λ d. charged (counts_of old.1) (count_if d 1) (length bytes)) (sym foreign))
    (tree_after-write (seen old) at bytes label there ∙ sym made) fits

pub written-full : (old : Tree × Pen) (at : Names) (bytes : List ℕ) (label : Label) (draws : Bool) → node_at old.0 at ≡ Some (File label)
    → draws ≡ not (is_own (counts_of old.1) label) → within_limits (with_counts old.1 (charged (counts_of old.1) (count_if draws 1) (length bytes))) ≡ None → IsChange uncounted (Write at bytes) old (Err NoSpace) old
written-full old at bytes label draws there foreign full =
    IsChange-full uncounted (Write at bytes) old (with_contents (seen old) label (with_bytes bytes (contents_at old.0 label))) (charged (counts_of old.1) (count_if draws 1) (length bytes)) (ap file_fault there)
    (pen_after-write (seen old) at bytes label there ∙ ap (λ d. charged (counts_of old.1) (count_if d 1) (length bytes)) (sym foreign))
    (tree_after-write (seen old) at bytes label there) full

linked-tree : (old : State) (first at : Names) (label : Label) → node_at old.0 first ≡ Some (File label) → tree_after (AddName first at) old ≡ with_name old.0 at (File label)
linked-tree old first at label there = ap (named_again old.0 at) there

linked-fault : (old : State) (first at : Names) (label : Label) → node_at old.0 first ≡ Some (File label) → new_name_fault old.0 at ≡ None → fault_of (AddName first at) old.0 ≡ None
linked-fault old first at label there none = ap (λ node. option_or (file_fault node) (new_name_fault old.0 at)) there ∙ none

pen-linked : (old : State) (first at : Names) (label : Label) → node_at old.0 first ≡ Some (File label) → new_name_fault old.0 at ≡ None → pen_after (AddName first at) old ≡ named old.1 at
pen-linked old first at label there none =
    let counted = ap (recounted old.1 old.0) (linked-tree old first at label there) ∙ recounted-insert old.1 old.0 (with_name old.0 at (File label)) at (File label) (free old.0 at none) refl in
    λ i. record (counted i) { next = plus_zero old.1.next i; bytes = plus_zero old.1.bytes i }

pub linked-ok : (old : Tree × Pen) (first at : Names) (label : Label) (new : Tree) (after : Pen) → node_at old.0 first ≡ Some (File label) → new_name_fault old.0 at ≡ None → within_limits (with_counts old.1 (named (counts_of old.1) at)) ≡ Some after
    → new ≡ with_name old.0 at (File label) → IsChange uncounted (AddName first at) old (Ok tt) (new, after)
linked-ok old first at label new after there none fits made =
    IsChange-ok uncounted (AddName first at) old new (named (counts_of old.1) at) after refl (linked-fault (seen old) first at label there none) (pen-linked (seen old) first at label there none) (linked-tree (seen old) first at label there ∙ sym made) fits

pub linked-full : (old : Tree × Pen) (first at : Names) (label : Label) → node_at old.0 first ≡ Some (File label) → new_name_fault old.0 at ≡ None → within_limits (with_counts old.1 (named (counts_of old.1) at)) ≡ None → IsChange uncounted (AddName first at) old (Err NoSpace) old
linked-full old first at label there none full =
    IsChange-full uncounted (AddName first at) old (with_name old.0 at (File label)) (named (counts_of old.1) at) (linked-fault (seen old) first at label there none) (pen-linked (seen old) first at label there none) (linked-tree (seen old) first at label there) full

pen-made_link : (old : State) (at : Names) (text : List ℕ) → new_name_fault old.0 at ≡ None → pen_after (MakeLink at text) old ≡ named old.1 at
pen-made_link old at text none =
    let counted = recounted-insert old.1 old.0 (with_name old.0 at (Link text)) at (Link text) (free old.0 at none) refl in
    λ i. record (counted i) { next = plus_zero old.1.next i; bytes = plus_zero old.1.bytes i }

pub made_link-ok : (old : Tree × Pen) (at : Names) (text : List ℕ) (new : Tree) (after : Pen) → new_name_fault old.0 at ≡ None → within_limits (with_counts old.1 (named (counts_of old.1) at)) ≡ Some after
    → new ≡ with_name old.0 at (Link text) → IsChange uncounted (MakeLink at text) old (Ok tt) (new, after)
made_link-ok old at text new after none fits made = IsChange-ok uncounted (MakeLink at text) old new (named (counts_of old.1) at) after refl none (pen-made_link (seen old) at text none) (sym made) fits

pub made_link-full : (old : Tree × Pen) (at : Names) (text : List ℕ) → new_name_fault old.0 at ≡ None → within_limits (with_counts old.1 (named (counts_of old.1) at)) ≡ None → IsChange uncounted (MakeLink at text) old (Err NoSpace) old
made_link-full old at text none full = IsChange-full uncounted (MakeLink at text) old (with_name old.0 at (Link text)) (named (counts_of old.1) at) none (pen-made_link (seen old) at text none) refl full

removable : (tree : Tree) (at : Names) (node : Option Node) → remove_fault tree at node ≡ None → (n : Node) × (node ≡ Some n)
removable tree at None none = cc
removable tree at (Some node) none = (node, refl)

removed-fault : (old : State) (at : Names) → is_path at [] ≡ false → remove_fault old.0 at (node_at old.0 at) ≡ None → fault_of (Remove at) old.0 ≡ None
removed-fault old at other none = ap (λ b. option_or (fault_if b Outside) (remove_fault old.0 at (node_at old.0 at))) other ∙ none

pen-removed : (old : State) (at : Names) → remove_fault old.0 at (node_at old.0 at) ≡ None → pen_after (Remove at) old ≡ unnamed old.1 at
pen-removed old at none =
    let there = removable old.0 at (node_at old.0 at) none in
    let counted = recounted-remove old.1 old.0 (tree_after (Remove at) old) at there.0 there.1 refl in
    λ i. record (counted i) { next = plus_zero old.1.next i; bytes = plus_zero old.1.bytes i }

pub removed-ok : (old : Tree × Pen) (at : Names) (gone : Option Label) (new : Tree) (after : Pen) → is_path at [] ≡ false → remove_fault old.0 at (node_at old.0 at) ≡ None → gone ≡ label_of (node_at old.0 at)
    → within_limits (with_counts old.1 (unnamed (counts_of old.1) at)) ≡ Some after → new ≡ without_gone (without_name old.0 at) gone → IsChange uncounted (Remove at) old (Ok tt) (new, after)
removed-ok old at gone new after other none is fits made =
    IsChange-ok uncounted (Remove at) old new (unnamed (counts_of old.1) at) after refl (removed-fault (seen old) at other none) (pen-removed (seen old) at none) (ap (without_gone (without_name old.0 at)) (sym is) ∙ sym made) fits

pub removed-full : (old : Tree × Pen) (at : Names) → is_path at [] ≡ false → remove_fault old.0 at (node_at old.0 at) ≡ None → within_limits (with_counts old.1 (unnamed (counts_of old.1) at)) ≡ None → IsChange uncounted (Remove at) old (Err NoSpace) old
removed-full old at other none full = IsChange-full uncounted (Remove at) old (tree_after (Remove at) (seen old)) (unnamed (counts_of old.1) at) (removed-fault (seen old) at other none) (pen-removed (seen old) at none) refl full

pub uncharged : (pen : Counts) → record pen { next = pen.next + 0; bytes = pen.bytes + 0 } ≡ pen
uncharged pen i = record pen { next = plus_zero pen.next i; bytes = plus_zero pen.bytes i }

pub populated-ok : (old : Tree × Pen) (from new : Tree) (after : Pen) → within_limits (with_counts old.1 (recounted (counts_of old.1) old.0 (over old.0 from))) ≡ Some after → new ≡ over old.0 from → IsChange uncounted (Populate from) old (Ok tt) (new, after)
populated-ok old from new after fits made =
    IsChange-ok uncounted (Populate from) old new (recounted (counts_of old.1) old.0 (over old.0 from)) after refl refl (uncharged (recounted (counts_of old.1) old.0 (over old.0 from))) (sym made) fits

pub populated-full : (old : Tree × Pen) (from : Tree) → within_limits (with_counts old.1 (recounted (counts_of old.1) old.0 (over old.0 from))) ≡ None → IsChange uncounted (Populate from) old (Err NoSpace) old
populated-full old from full = IsChange-full uncounted (Populate from) old (over old.0 from) (recounted (counts_of old.1) old.0 (over old.0 from)) refl (uncharged (recounted (counts_of old.1) old.0 (over old.0 from))) refl full

-- a change of a file that another label may be drawn for, and its bytes copied
pen_after-append : (old : State) (at : Names) (bytes : List ℕ) (label : Label) → node_at old.0 at ≡ Some (File label)
    → pen_after (Append at bytes) old ≡ charged old.1 (count_if (not (is_own old.1 label)) 1) (length bytes + count_if (not (is_own old.1 label)) (length (contents_at old.0 label).bytes))
pen_after-append old at bytes label there =
    let new = with_contents old label (with_more bytes (contents_at old.0 label)) in
    let kept : recounted old.1 old.0 (tree_after (Append at bytes) old) ≡ old.1 = ap (recounted old.1 old.0) (ap (written old (with_more bytes)) there) ∙ recounted-with_contents old label (with_more bytes (contents_at old.0 label)) in
    let draws : drawn (Append at bytes) old ≡ count_if (not (is_own old.1 label)) 1 = ap (λ node. count_if (is_foreign old.1 node) 1) there in
    let spends : spent (Append at bytes) old ≡ length bytes + count_if (not (is_own old.1 label)) (length (contents_at old.0 label).bytes) = ap (λ node. length bytes + count_if (is_foreign old.1 node) (size_at old.0 node)) there in
    λ i. record (kept i) { next = old.1.next + draws i; bytes = old.1.bytes + spends i }

pub appended-ok : (old : Tree × Pen) (at : Names) (bytes : List ℕ) (label : Label) (new : Tree) (after : Pen) (draws : Bool) → node_at old.0 at ≡ Some (File label) → draws ≡ not (is_own (counts_of old.1) label)
    → within_limits (with_counts old.1 (charged (counts_of old.1) (count_if draws 1) (length bytes + count_if draws (length (contents_at old.0 label).bytes)))) ≡ Some after
    → new ≡ with_contents (seen old) label (with_more bytes (contents_at old.0 label)) → IsChange uncounted (Append at bytes) old (Ok tt) (new, after)
appended-ok old at bytes label new after draws there foreign fits made =
    IsChange-ok uncounted (Append at bytes) old new (charged (counts_of old.1) (count_if draws 1) (length bytes + count_if draws (length (contents_at old.0 label).bytes))) after refl (ap file_fault there)
    (pen_after-append (seen old) at bytes label there ∙ ap (λ d. charged (counts_of old.1) (count_if d 1) (length bytes + count_if d (length (contents_at old.0 label).bytes))) (sym foreign))
    (ap (written (seen old) (with_more bytes)) there ∙ sym made) fits

pub appended-full : (old : Tree × Pen) (at : Names) (bytes : List ℕ) (label : Label) (draws : Bool) → node_at old.0 at ≡ Some (File label) → draws ≡ not (is_own (counts_of old.1) label)
    → within_limits (with_counts old.1 (charged (counts_of old.1) (count_if draws 1) (length bytes + count_if draws (length (contents_at old.0 label).bytes)))) ≡ None → IsChange uncounted (Append at bytes) old (Err NoSpace) old
appended-full old at bytes label draws there foreign full =
    IsChange-full uncounted (Append at bytes) old (with_contents (seen old) label (with_more bytes (contents_at old.0 label))) (charged (counts_of old.1) (count_if draws 1) (length bytes + count_if draws (length (contents_at old.0 label).bytes))) (ap file_fault there)
    (pen_after-append (seen old) at bytes label there ∙ ap (λ d. charged (counts_of old.1) (count_if d 1) (length bytes + count_if d (length (contents_at old.0 label).bytes))) (sym foreign))
    (ap (written (seen old) (with_more bytes)) there) full

pen_after-mode : (old : State) (at : Names) (mode : ℕ) (label : Label) → node_at old.0 at ≡ Some (File label)
    → pen_after (SetMode at mode) old ≡ charged old.1 (count_if (not (is_own old.1 label)) 1) (count_if (not (is_own old.1 label)) (length (contents_at old.0 label).bytes))
pen_after-mode old at mode label there =
    let kept : recounted old.1 old.0 (tree_after (SetMode at mode) old) ≡ old.1 = ap (recounted old.1 old.0) (ap (mode_set old at mode) there) ∙ recounted-with_contents old label (with_mode mode (contents_at old.0 label)) in
    let draws : drawn (SetMode at mode) old ≡ count_if (not (is_own old.1 label)) 1 = ap (λ node. count_if (is_foreign old.1 node) 1) there in
    let spends : spent (SetMode at mode) old ≡ count_if (not (is_own old.1 label)) (length (contents_at old.0 label).bytes) = ap (λ node. count_if (is_foreign old.1 node) (size_at old.0 node)) there in
    λ i. record (kept i) { next = old.1.next + draws i; bytes = old.1.bytes + spends i }

pub mode_set-ok : (old : Tree × Pen) (at : Names) (mode : ℕ) (label : Label) (new : Tree) (after : Pen) (draws : Bool) → node_at old.0 at ≡ Some (File label) → draws ≡ not (is_own (counts_of old.1) label)
    → within_limits (with_counts old.1 (charged (counts_of old.1) (count_if draws 1) (count_if draws (length (contents_at old.0 label).bytes)))) ≡ Some after
    → new ≡ with_contents (seen old) label (with_mode mode (contents_at old.0 label)) → IsChange uncounted (SetMode at mode) old (Ok tt) (new, after)
mode_set-ok old at mode label new after draws there foreign fits made =
    IsChange-ok uncounted (SetMode at mode) old new (charged (counts_of old.1) (count_if draws 1) (count_if draws (length (contents_at old.0 label).bytes))) after refl (ap mode_fault there)
    (pen_after-mode (seen old) at mode label there ∙ ap (λ d. charged (counts_of old.1) (count_if d 1) (count_if d (length (contents_at old.0 label).bytes))) (sym foreign))
    (ap (mode_set (seen old) at mode) there ∙ sym made) fits

pub mode_set-full : (old : Tree × Pen) (at : Names) (mode : ℕ) (label : Label) (draws : Bool) → node_at old.0 at ≡ Some (File label) → draws ≡ not (is_own (counts_of old.1) label)
    → within_limits (with_counts old.1 (charged (counts_of old.1) (count_if draws 1) (count_if draws (length (contents_at old.0 label).bytes)))) ≡ None → IsChange uncounted (SetMode at mode) old (Err NoSpace) old
mode_set-full old at mode label draws there foreign full =
    IsChange-full uncounted (SetMode at mode) old (with_contents (seen old) label (with_mode mode (contents_at old.0 label))) (charged (counts_of old.1) (count_if draws 1) (count_if draws (length (contents_at old.0 label).bytes))) (ap mode_fault there)
    (pen_after-mode (seen old) at mode label there ∙ ap (λ d. charged (counts_of old.1) (count_if d 1) (count_if d (length (contents_at old.0 label).bytes))) (sym foreign))
    (ap (mode_set (seen old) at mode) there) full

pen-made_file : (old : State) (at : Names) (mode : ℕ) (bytes : List ℕ) → new_name_fault old.0 at ≡ None → pen_after (MakeFile at mode bytes) old ≡ labelled (named old.1 at) bytes
pen-made_file old at mode bytes none =
    let counted = recounted-insert old.1 old.0 (tree_after (MakeFile at mode bytes) old) at (File (next_label old.1)) (free old.0 at none) refl in
    λ i. record (counted i) { next = old.1.next + 1; bytes = old.1.bytes + length bytes }

pub made_file-ok : (old : Tree × Pen) (at : Names) (mode : ℕ) (bytes : List ℕ) (new : Tree) (after : Pen) → new_name_fault old.0 at ≡ None → within_limits (with_counts old.1 (labelled (named (counts_of old.1) at) bytes)) ≡ Some after
    → new ≡ with_label (with_name old.0 at (File (next_label (counts_of old.1)))) (next_label (counts_of old.1)) (record { mode = mode; bytes = bytes }) → IsChange uncounted (MakeFile at mode bytes) old (Ok tt) (new, after)
made_file-ok old at mode bytes new after none fits made = IsChange-ok uncounted (MakeFile at mode bytes) old new (labelled (named (counts_of old.1) at) bytes) after refl none (pen-made_file (seen old) at mode bytes none) (sym made) fits

pub made_file-full : (old : Tree × Pen) (at : Names) (mode : ℕ) (bytes : List ℕ) → new_name_fault old.0 at ≡ None → within_limits (with_counts old.1 (labelled (named (counts_of old.1) at) bytes)) ≡ None → IsChange uncounted (MakeFile at mode bytes) old (Err NoSpace) old
made_file-full old at mode bytes none full =
    IsChange-full uncounted (MakeFile at mode bytes) old (tree_after (MakeFile at mode bytes) (seen old)) (labelled (named (counts_of old.1) at) bytes) none (pen-made_file (seen old) at mode bytes none) refl full
