use Rattle.std.proofs.Common.{◌+◌, ◌≡◌, List, length, sym, ap, ◌∙◌, is_some}
use Rattle.tree_ops.specs.Pen.{Counts, counts_of, with_counts, within_limits}
use Rattle.tree_ops.specs.Tree.{node_at}
use Rattle.tree_ops.specs.Change.{dropped_unused, moved}
use Rattle.tree_map.specs.declared.moving.Move.{Move}
use Rattle.tree_map.specs.Moving.{is_taken, carried, counts_moved}
use Rattle.tree_map.specs.Parts.{shown}
use Rattle.tree_map.proofs.Renamed.{moved-ok, moved-full, found-move, below-free, below-carried, below-counted}
use Rattle.tree_map.proofs.trees.MapTree.move_names.Goals as goal

pub moves-requires : goal.moves-requires
moves-requires c = ap is_some (found-move (shown c.args.self.now) c.args.old.now c.args.at.now c.requires.refused).1

pub returns-in-None : goal.returns-in-None
returns-in-None c =
    let pen = counts_of c.args.pen.now in
    let count : c.len.result ≡ length c.in-Ok.moves.items = c.len.ensures ∙ c.in-Ok.moves.ok.0 in
    let counted = ap (λ n. counts_moved pen c.args.old.now c.args.at.now (n + 1) (is_some (node_at (shown c.args.self.now) c.args.at.now))) (count ∙ ap (length {A = Move}) c.in-Ok.ensures.ok)
    ∙ below-counted (shown c.args.self.now) c.requires.sound c.args.old.now c.args.at.now c.requires.refused c.requires.other c.in-Ok.ensures.fits pen in
    moved-full (shown c.args.self.now, c.args.pen.now) c.args.old.now c.args.at.now c.requires.refused c.requires.other c.in-Ok.ensures.fits
    (ap (λ (counts : Counts). within_limits (with_counts c.args.pen.now counts)) (sym counted) ∙ sym c.counted_move.ensures ∙ c.in-None.is)

pub carry-requires : goal.carry-requires
carry-requires c =
    ap (is_taken c.args.self.now.names) (c.as_slice.ensures.value ∙ c.in-Ok.ensures.ok)
    ∙ below-free (shown c.args.self.now) c.requires.sound c.args.old.now c.args.at.now c.requires.refused c.requires.other c.in-Ok.ensures.fits

pub returns : goal.returns
returns c =
    let old = shown c.args.self.now in
    let pen = counts_of c.args.pen.now in
    let count : c.len.result ≡ length c.in-Ok.moves.items = c.len.ensures ∙ c.in-Ok.moves.ok.0 in
    let counted = ap (λ n. counts_moved pen c.args.old.now c.args.at.now (n + 1) (is_some (node_at old c.args.at.now))) (count ∙ ap (length {A = Move}) c.in-Ok.ensures.ok)
    ∙ below-counted old c.requires.sound c.args.old.now c.args.at.now c.requires.refused c.requires.other c.in-Ok.ensures.fits pen in
    let names : c.carry.new.self ≡ moved old.names c.args.old.now c.args.at.now =
    c.in_ok-carry.ensures.ok
    ∙ ap (λ (moves : List Move). carried c.args.old.now c.args.at.now moves old.names) (c.as_slice.ensures.value ∙ c.in-Ok.ensures.ok)
    ∙ below-carried old c.requires.sound c.args.old.now c.args.at.now c.requires.refused c.requires.other c.in-Ok.ensures.fits in
    moved-ok (old, c.args.pen.now) c.args.old.now c.args.at.now (shown c.drop_gone.new.self) c.in-Some.after c.requires.refused c.requires.other c.in-Ok.ensures.fits
    (ap (λ (counts : Counts). within_limits (with_counts c.args.pen.now counts)) (sym counted) ∙ sym c.counted_move.ensures ∙ c.in-Some.is)
    (c.drop_gone.ensures ∙ (λ i. record { names = names i; labels = dropped_unused (names i) (c.label_at-gone.ensures i) old.labels }))
