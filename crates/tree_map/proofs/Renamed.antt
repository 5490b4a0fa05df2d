-- What the tests and parts of a move make up.
use Rattle.std.proofs.Common.{◌+◌, ◌≡◌, Bool, true, false, cond, List, Option, Some, None, Ok, Err, refl, sym, ap, ◌∙◌, [], ◌||◌, is_some, length, arith}
use Rattle.std.specs.FinMap as fin
use Rattle.std.specs.FinMap.Entries.{where_key}
use Rattle.std.specs.Option.{is_none}
use Rattle.std.proofs.lemmas.List.{length-map}
use Rattle.br_path.specs.Path.{Names, parent_of, path_cmp}
use Rattle.tree_ops.specs.declared.entry.Node.{Node}
use Rattle.tree_ops.specs.declared.change.ChangeFault.{ChangeFault}
use Rattle.tree_ops.specs.declared.change.ChangeFault.TheVariants.{Absent, Present, NotDir, IsDir, IsLink, NotEmpty, ReadOnly, Outside, Loop, Crosses, NoSpace, TooLong, Memory}
use Rattle.tree_ops.specs.declared.pen.Pen.{Pen}
use Rattle.tree_ops.specs.Tree.{Tree, IsTree, node_at}
use Rattle.tree_ops.specs.Pen.{Counts, counts_of, with_counts, within_limits}
use Rattle.tree_ops.specs.Change.{Rename, State, seen, changed, IsChange, IsChecked, is_below, fault_of, tree_after, pen_after, fault_if, is_path, moved, label_of, dropped_unused, recounted, grows_too_long, parent_fault, replace_fault}
use Rattle.tree_ops.proofs.Changed.{IsChange-ok, IsChange-full, changed-refused}
use Rattle.tree_ops.proofs.Faults.{both_none, no_fault, something}
use Rattle.tree_ops.proofs.Kept.{move-renamed}
use Rattle.tree_ops.proofs.Moving.{IsMove}
use Rattle.tree_ops.proofs.Sound.{sound-of}
use Rattle.tree_map.specs.declared.moving.Move.{Move}
use Rattle.tree_map.specs.Moving.{move_of, moves_below, is_taken, carried, counts_moved}
use Rattle.tree_map.specs.Parts.{faults_in_turn, move_fault, uncounted}
use Rattle.tree_map.proofs.Carried.{none-taken, carried-moved}
use Rattle.tree_map.proofs.Made.{uncharged}
use Rattle.tree_map.proofs.Shifted.{counted-moved}

in_turn-last : (a b : Option ChangeFault) (same : Bool) (c d e last : Option ChangeFault) → faults_in_turn a b same c d e None ≡ None → same ≡ false → faults_in_turn a b same c d e last ≡ last
in_turn-last (Some x) b same c d e last is other = cc
in_turn-last None (Some x) same c d e last is other = cc
in_turn-last None None true c d e last is other = cc
in_turn-last None None false (Some x) d e last is other = cc
in_turn-last None None false None (Some x) e last is other = cc
in_turn-last None None false None None (Some x) last is other = cc
in_turn-last None None false None None None last is other = refl

abbrev long : Tree → Names → Names → Option ChangeFault
long tree old at = fault_if (grows_too_long tree old at) TooLong

-- the tests of a move in turn
abbrev outside : Names → Names → Option ChangeFault
outside old at = fault_if (is_path old [] || is_path at []) Outside

abbrev absent : Tree → Names → Option ChangeFault
absent tree old = fault_if (is_none (node_at tree old)) Absent

abbrev loops : Names → Names → Option ChangeFault
loops old at = fault_if (is_below old at) Loop

abbrev no_parent : Tree → Names → Option ChangeFault
no_parent tree at = parent_fault tree (parent_of at)

abbrev replaced : Tree → Names → Names → Option ChangeFault
replaced tree old at = replace_fault tree at (node_at tree at) (node_at tree old)

-- what a move to another path comes to
abbrev pub moved_tree : State → Names → Names → Tree
moved_tree old first at = record { names = moved old.0.names first at; labels = dropped_unused (moved old.0.names first at) (label_of (node_at old.0 at)) old.0.labels }

moved-after : (old : State) (first at : Names) → is_path first at ≡ false → tree_after (Rename first at) old ≡ moved_tree old first at
moved-after old first at other = ap (λ b. cond b old.0 (moved_tree old first at)) other

moved-pen : (old : State) (first at : Names) → is_path first at ≡ false → pen_after (Rename first at) old ≡ recounted old.1 old.0 (moved_tree old first at)
moved-pen old first at other =
    (λ i. record (recounted old.1 old.0 (moved-after old first at other i)) { next = old.1.next + 0; bytes = old.1.bytes + 0 }) ∙ uncharged (recounted old.1 old.0 (moved_tree old first at))

moved-fault : (old : Tree) (first at : Names) → move_fault old first at None ≡ None → is_path first at ≡ false → grows_too_long old first at ≡ false → fault_of (Rename first at) old ≡ None
moved-fault old first at none other short = in_turn-last (outside first at) (absent old first) (is_path first at) (loops first at) (no_parent old at) (replaced old first at) (long old first at) none other ∙ ap (λ b. fault_if b TooLong) short

pub moved-ok : (old : Tree × Pen) (first at : Names) (new : Tree) (after : Pen) → move_fault old.0 first at None ≡ None → is_path first at ≡ false → grows_too_long old.0 first at ≡ false
    → within_limits (with_counts old.1 (recounted (counts_of old.1) old.0 (moved_tree (seen old) first at))) ≡ Some after → new ≡ moved_tree (seen old) first at → IsChange uncounted (Rename first at) old (Ok tt) (new, after)
moved-ok old first at new after none other short fits made =
    IsChange-ok uncounted (Rename first at) old new (recounted (counts_of old.1) old.0 (moved_tree (seen old) first at)) after refl (moved-fault (seen old).0 first at none other short) (moved-pen (seen old) first at other) (moved-after (seen old) first at other ∙ sym made) fits

pub moved-full : (old : Tree × Pen) (first at : Names) → move_fault old.0 first at None ≡ None → is_path first at ≡ false → grows_too_long old.0 first at ≡ false
    → within_limits (with_counts old.1 (recounted (counts_of old.1) old.0 (moved_tree (seen old) first at))) ≡ None → IsChange uncounted (Rename first at) old (Err NoSpace) old
moved-full old first at none other short full =
    IsChange-full uncounted (Rename first at) old (moved_tree (seen old) first at) (recounted (counts_of old.1) old.0 (moved_tree (seen old) first at)) (moved-fault (seen old).0 first at none other short) (moved-pen (seen old) first at other) (moved-after (seen old) first at other) full

-- a fault that is found first stays the first
in_turn-first : (a b : Option ChangeFault) (same : Bool) (c d e last : Option ChangeFault) (fault : ChangeFault) → faults_in_turn a b same c d e None ≡ Some fault → faults_in_turn a b same c d e last ≡ Some fault
in_turn-first (Some x) b same c d e last fault is = is
in_turn-first None (Some x) same c d e last fault is = is
in_turn-first None None true c d e last fault is = cc
in_turn-first None None false (Some x) d e last fault is = is
in_turn-first None None false None (Some x) e last fault is = is
in_turn-first None None false None None (Some x) last fault is = is
in_turn-first None None false None None None last fault is = cc

pub moved-refused : (old : Tree × Pen) (first at : Names) (fault : ChangeFault) → IsChecked (move_fault old.0 first at None) (Err fault) → IsChange uncounted (Rename first at) old (Err fault) old
moved-refused old first at fault is =
    elim fault as (λ fault. IsChecked (move_fault old.0 first at None) (Err fault) → IsChange uncounted (Rename first at) old (Err fault) old) [
      | Absent ↦ λ is. (by Absent is, refl)
      | Present ↦ λ is. (by Present is, refl)
      | NotDir ↦ λ is. (by NotDir is, refl)
      | IsDir ↦ λ is. (by IsDir is, refl)
      | IsLink ↦ λ is. (by IsLink is, refl)
      | NotEmpty ↦ λ is. (by NotEmpty is, refl)
      | ReadOnly ↦ λ is. (by ReadOnly is, refl)
      | Outside ↦ λ is. (by Outside is, refl)
      | Loop ↦ λ is. (by Loop is, refl)
      | Crosses ↦ λ is. (by Crosses is, refl)
      | NoSpace ↦ λ is. (by NoSpace is, refl)
      | TooLong ↦ λ is. (by TooLong is, refl)
      | Memory ↦ λ is. refl
    ] is
  where
    by : (fault : ChangeFault) → move_fault old.0 first at None ≡ Some fault → changed (Rename first at) (seen old) ≡ Err fault
    by fault is =
        changed-refused (Rename first at) (seen old) fault
        (in_turn-first (outside first at) (absent old.0 first) (is_path first at) (loops first at) (no_parent old.0 at) (replaced old.0 first at) (long old.0 first at) fault is)

-- what moves stands, if nothing refuses the move
pub found-move : (tree : Tree) (first at : Names) → move_fault tree first at None ≡ None → (node : Node) × (node_at tree first ≡ Some node)
found-move tree first at none = let all = both_none (outside first at) _ none in let one = both_none (absent tree first) _ all.1 in something (node_at tree first) (no_fault (is_none (node_at tree first)) Absent one.0)

-- a move that nothing refuses, by the moves of what stands below the path
module _ (tree : Tree) (whole : IsTree tree) (first at : Names) (none : move_fault tree first at None ≡ None) (other : is_path first at ≡ false) (short : grows_too_long tree first at ≡ false) where
  abbrev below : List Move
  below = moves_below first at (fin.entries tree.names)

  is-move : IsMove tree first at
  is-move = move-renamed tree (sound-of tree whole) first at (moved-fault tree first at none other short) other

  pub below-free : is_taken tree.names below ≡ false
  below-free = let found = found-move tree first at none in none-taken tree first at (sound-of tree whole) is-move found.0 found.1

  pub below-carried : carried first at below tree.names ≡ moved tree.names first at
  below-carried = let found = found-move tree first at none in carried-moved tree first at (sound-of tree whole) is-move found.0 found.1

  pub below-counted : (pen : Counts) → counts_moved pen first at (length below + 1) (is_some (node_at tree at)) ≡ recounted pen tree (moved_tree (tree, pen) first at)
  below-counted pen =
      let found = found-move tree first at none in
      let move = is-move in
      ap (λ n. counts_moved pen first at n (is_some (node_at tree at))) count
      ∙ counted-moved tree.names first at move.outside move.bare found.0 found.1 pen tree (moved_tree (tree, pen) first at) refl refl
    where
      count : length below + 1 ≡ 1 + length (where_key path_cmp (is_below first) (fin.entries tree.names))
      count = let same = length-map (where_key path_cmp (is_below first) (fin.entries tree.names)) (λ entry. move_of first at entry.0) in omega arith
