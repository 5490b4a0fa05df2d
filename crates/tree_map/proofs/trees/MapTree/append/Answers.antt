use Rattle.std.proofs.Common.{length, ◌+◌, ◌++◌, sym, refl, not, ap, ◌==◌, ◌∙◌}
use Rattle.tree_ops.specs.Pen.{counts_of, with_counts, within_limits}
use Rattle.tree_ops.specs.Change.{with_contents, charged, count_if}
use Rattle.tree_map.specs.Parts.{shown}
use Rattle.tree_map.proofs.Made.{appended-ok, appended-full}
use Rattle.tree_map.proofs.trees.MapTree.append.Goals as goal

pub returns-in-None : goal.returns-in-None
returns-in-None c =
    let draws = not (c.in_ok-label.label.task == c.args.pen.now.task) in
    let size = ap (λ n. within_limits (with_counts c.args.pen.now (charged (counts_of c.args.pen.now) (count_if draws 1) (length c.args.bytes.now + n)))) c.copied_len-copied.ensures.len in
    appended-full (shown c.args.self.now, c.args.pen.now) c.args.at.now c.args.bytes.now c.in_ok-label.label draws c.in_ok-label.ensures refl (sym size ∙ sym c.in-None.ensures)

pub returns : goal.returns
returns c =
    let draws = not (c.in_ok-label.label.task == c.args.pen.now.task) in
    let size = ap (λ n. within_limits (with_counts c.args.pen.now (charged (counts_of c.args.pen.now) (count_if draws 1) (length c.args.bytes.now + n)))) c.copied_len-copied.ensures.len in
    let made = c.in_ok-put_contents.ensures.ok
    ∙ ap (with_contents (shown c.args.self.now, counts_of c.args.pen.now) c.in_ok-label.label) (c.in_ok-contents.ensures ∙ (λ i. record { mode = c.mode_of.ensures i; bytes = (c.in_ok-bytes.ensures ∙ ap (λ front. front ++ c.args.bytes.now) c.bytes_of.ensures) i })) in
    appended-ok (shown c.args.self.now, c.args.pen.now) c.args.at.now c.args.bytes.now c.in_ok-label.label (shown c.put_contents.new.self) c.in-Some.after draws c.in_ok-label.ensures refl (sym size ∙ sym c.in-Some.ensures) made
