-- How the tests, counts and parts of a change make up its outcome.
use Rattle.std.proofs.Common.{ℕ, ◌+◌, List, length, ◌≡◌, Bool, true, false, not, cond, Some, None, Result, Ok, Err, refl, sym, ap, ◌∙◌}
use Rattle.std.specs.FinMap as fin
use Rattle.br_path.specs.Path.{Names}
use Rattle.tree_ops.specs.declared.change.ChangeFault.{ChangeFault}
use Rattle.tree_ops.specs.declared.change.ChangeFault.TheVariants.{NoSpace}
use Rattle.tree_ops.specs.declared.entry.Contents.{Contents}
use Rattle.tree_ops.specs.declared.entry.Label.{Label}
use Rattle.tree_ops.specs.declared.entry.Node.TheVariants.{File}
use Rattle.tree_ops.specs.declared.pen.Pen.{Pen}
use Rattle.tree_ops.specs.Tree.{Tree, node_at}
use Rattle.tree_ops.specs.Pen.{Counts, counts_of, with_counts, is_within_limits, within_limits}
use Rattle.tree_ops.specs.Change.{Change, Write, State, changed, fault_of, unless_refused, limited, after, seen, copied_size, IsChange, tree_after, pen_after, is_own, with_contents, with_bytes, contents_at, next_label, charged, count_if, recounted, is_foreign, written, relabelled, drawn}
use Rattle.tree_ops.proofs.Counts.{recounted-same, recounted-relabelled}

fits : (state : State) → is_within_limits state.1 ≡ true → limited state ≡ Ok state
fits state within = ap (λ b. cond {A = Result State ChangeFault} b (Ok state) (Err NoSpace)) within

past : (state : State) → is_within_limits state.1 ≡ false → limited state ≡ Err NoSpace
past state over = ap (λ b. cond {A = Result State ChangeFault} b (Ok state) (Err NoSpace)) over

counted_as : (change : Change) (old new : State) → fault_of change old.0 ≡ None → pen_after change old ≡ new.1 → tree_after change old ≡ new.0 → changed change old ≡ limited new
counted_as change old new none counted made =
    ap (λ fault. unless_refused fault (limited (after change old))) none ∙ ap limited (λ i. (made i, counted i))

-- a change that has no fault, and whose counts are within their limits
pub changed-within : (change : Change) (old new : State) → fault_of change old.0 ≡ None → pen_after change old ≡ new.1 → tree_after change old ≡ new.0 → is_within_limits new.1 ≡ true → changed change old ≡ Ok new
changed-within change old new none counted made within = counted_as change old new none counted made ∙ fits new within

-- one that would pass a limit
pub changed-past : (change : Change) (old new : State) → fault_of change old.0 ≡ None → pen_after change old ≡ new.1 → tree_after change old ≡ new.0 → is_within_limits new.1 ≡ false → changed change old ≡ Err NoSpace
changed-past change old new none counted made over = counted_as change old new none counted made ∙ past new over

-- what a pen's test tells
pub within-some : (pen after : Pen) → within_limits pen ≡ Some after → (is_within_limits (counts_of pen) ≡ true) × (pen ≡ after)
within-some pen after is = by (is_within_limits (counts_of pen)) refl is
  where
    by : (b : Bool) → is_within_limits (counts_of pen) ≡ b → cond b (Some pen) None ≡ Some after → (is_within_limits (counts_of pen) ≡ true) × (pen ≡ after)
    by true fits is = (fits, cc)
    by false past is = cc

pub within-none : (pen : Pen) → within_limits pen ≡ None → is_within_limits (counts_of pen) ≡ false
within-none pen is = by (is_within_limits (counts_of pen)) refl is
  where
    by : (b : Bool) → is_within_limits (counts_of pen) ≡ b → cond b (Some pen) None ≡ None → is_within_limits (counts_of pen) ≡ false
    by true fits is = cc
    by false past is = past

-- a change whose pen keeps what it has copied
pub IsChange-ok : (copying : ℕ → ℕ → ℕ) (change : Change) (old : Tree × Pen) (new : Tree) (counts : Counts) (after : Pen) → old.1.copied ≡ copying old.1.copied (copied_size change (seen old)) → fault_of change old.0 ≡ None
    → pen_after change (seen old) ≡ counts → tree_after change (seen old) ≡ new → within_limits (with_counts old.1 counts) ≡ Some after → IsChange copying change old (Ok tt) (new, after)
IsChange-ok copying change old new counts after copied none counted made within =
    let test = within-some (with_counts old.1 counts) after within in (
      changed-within change (seen old) (new, counts) none counted made test.0 ∙ ap (λ (pen : Pen). Ok (new, counts_of pen)) test.1,
      ap (λ (pen : Pen). pen.copied) (sym test.1) ∙ copied,
    )

pub IsChange-full : (copying : ℕ → ℕ → ℕ) (change : Change) (old : Tree × Pen) (new : Tree) (counts : Counts) → fault_of change old.0 ≡ None
    → pen_after change (seen old) ≡ counts → tree_after change (seen old) ≡ new → within_limits (with_counts old.1 counts) ≡ None → IsChange copying change old (Err NoSpace) old
IsChange-full copying change old new counts none counted made full =
    (changed-past change (seen old) (new, counts) none counted made (within-none (with_counts old.1 counts) full), refl)

pub changed-refused : (change : Change) (old : State) (fault : ChangeFault) → fault_of change old.0 ≡ Some fault → changed change old ≡ Err fault
changed-refused change old fault is = ap (λ f. unless_refused f (limited (after change old))) is

abbrev moved_to : State → Label → Contents → Tree
moved_to old label contents = record { names = relabelled label (next_label old.1) old.0.names; labels = fin.remove (fin.insert old.0.labels (next_label old.1) contents) label }

-- a file's contents change no count of names
recounted-in_place : (old : State) (label : Label) (contents : Contents) (own : Bool) → is_own old.1 label ≡ own → recounted old.1 old.0 (with_contents old label contents) ≡ old.1
recounted-in_place old label contents true is =
    ap (λ tree. recounted old.1 old.0 tree) (ap (λ own. cond own (record old.0 { labels = fin.insert old.0.labels label contents }) (moved_to old label contents)) is)
    ∙ recounted-same old.1 old.0 (record old.0 { labels = fin.insert old.0.labels label contents }) refl refl
recounted-in_place old label contents false is =
    ap (λ tree. recounted old.1 old.0 tree) (ap (λ own. cond own (record old.0 { labels = fin.insert old.0.labels label contents }) (moved_to old label contents)) is)
    ∙ recounted-relabelled old.1 old.0 (moved_to old label contents) label (next_label old.1) refl

pub recounted-with_contents : (old : State) (label : Label) (contents : Contents) → recounted old.1 old.0 (with_contents old label contents) ≡ old.1
recounted-with_contents old label contents = recounted-in_place old label contents (is_own old.1 label) refl

-- a write of the file at a path: its tree and its pen
pub tree_after-write : (old : State) (at : Names) (bytes : List ℕ) (label : Label) → node_at old.0 at ≡ Some (File label)
    → tree_after (Write at bytes) old ≡ with_contents old label (with_bytes bytes (contents_at old.0 label))
tree_after-write old at bytes label there = ap (written old (with_bytes bytes)) there

pub pen_after-write : (old : State) (at : Names) (bytes : List ℕ) (label : Label) → node_at old.0 at ≡ Some (File label)
    → pen_after (Write at bytes) old ≡ charged old.1 (count_if (not (is_own old.1 label)) 1) (length bytes)
pen_after-write old at bytes label there =
    let new = with_contents old label (with_bytes bytes (contents_at old.0 label)) in
    let kept : recounted old.1 old.0 (tree_after (Write at bytes) old) ≡ old.1 =
    ap (recounted old.1 old.0) (tree_after-write old at bytes label there) ∙ recounted-with_contents old label (with_bytes bytes (contents_at old.0 label)) in
    let draws : drawn (Write at bytes) old ≡ count_if (not (is_own old.1 label)) 1 = ap (λ node. count_if (is_foreign old.1 node) 1) there in
    λ i. record (kept i) { next = old.1.next + draws i; bytes = old.1.bytes + length bytes }
