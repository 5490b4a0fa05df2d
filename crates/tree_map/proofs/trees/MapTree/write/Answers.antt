use Rattle.std.proofs.Common.{sym, refl, not, ap, ◌==◌, ◌∙◌}
use Rattle.tree_ops.specs.Pen.{counts_of}
use Rattle.tree_ops.specs.Change.{with_contents}
use Rattle.tree_map.specs.Parts.{shown}
use Rattle.tree_map.proofs.Made.{written-ok, written-full}
use Rattle.tree_map.proofs.trees.MapTree.write.Goals as goal

pub returns-in-None : goal.returns-in-None
returns-in-None c =
    written-full (shown c.args.self.now, c.args.pen.now) c.args.at.now c.args.bytes.now c.in_ok-label.label (not (c.in_ok-label.label.task == c.args.pen.now.task)) c.in_ok-label.ensures refl (sym c.in-None.ensures)

pub returns : goal.returns
returns c =
    let made = c.in_ok-put_contents.ensures.ok
    ∙ ap (with_contents (shown c.args.self.now, counts_of c.args.pen.now) c.in_ok-label.label) (c.in_ok-contents.ensures ∙ (λ i. record { mode = c.mode_of.ensures i; bytes = c.in_ok-bytes.ensures i })) in
    written-ok (shown c.args.self.now, c.args.pen.now) c.args.at.now c.args.bytes.now c.in_ok-label.label (shown c.put_contents.new.self) c.in-Some.after
    (not (c.in_ok-label.label.task == c.args.pen.now.task)) c.in_ok-label.ensures refl (sym c.in-Some.ensures) made
