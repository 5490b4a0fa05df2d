use Rattle.std.proofs.Common.{sym, refl, not, ap, ◌==◌, ◌∙◌}
use Rattle.tree_ops.specs.Pen.{counts_of, with_counts, within_limits}
use Rattle.tree_ops.specs.Change.{with_contents, charged, count_if}
use Rattle.tree_map.specs.Parts.{shown}
use Rattle.tree_map.proofs.Made.{mode_set-ok, mode_set-full}
use Rattle.tree_map.proofs.trees.MapTree.set_file_mode.Goals as goal

pub returns-in-None : goal.returns-in-None
returns-in-None c at there =
    let draws = not (c.args.label.task == c.args.pen.now.task) in
    let size = ap (λ n. within_limits (with_counts c.args.pen.now (charged (counts_of c.args.pen.now) (count_if draws 1) n))) c.copied_len-copied.ensures.len in
    mode_set-full (shown c.args.self.now, c.args.pen.now) at c.args.mode c.args.label draws there refl (sym size ∙ sym c.in-None.ensures)

pub returns : goal.returns
returns c at there =
    let draws = not (c.args.label.task == c.args.pen.now.task) in
    let size = ap (λ n. within_limits (with_counts c.args.pen.now (charged (counts_of c.args.pen.now) (count_if draws 1) n))) c.copied_len-copied.ensures.len in
    let made = c.in_ok-put_contents.ensures.ok
    ∙ ap (with_contents (shown c.args.self.now, counts_of c.args.pen.now) c.args.label) (c.in_ok-contents.ensures ∙ (λ i. record { mode = c.args.mode; bytes = (c.in_ok-bytes.ensures ∙ c.bytes_of.ensures) i })) in
    mode_set-ok (shown c.args.self.now, c.args.pen.now) at c.args.mode c.args.label (shown c.put_contents.new.self) c.in-Some.after draws there refl (sym size ∙ sym c.in-Some.ensures) made
