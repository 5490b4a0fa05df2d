use Rattle.std.proofs.Common.{ap, ◌∙◌}
use Rattle.tree_ops.specs.Pen.{counts_of, with_counts, within_limits}
use Rattle.tree_ops.specs.Change.{counted_anew}
use Rattle.tree_map.specs.Parts.{shown}
use Rattle.tree_map.proofs.Listed.{counted-anew}
use Rattle.tree_map.proofs.trees.MapTree.counted.Goals as goal

pub returns : goal.returns
returns c new is =
    c.counted_anew.ensures ∙ (λ i. within_limits (with_counts c.args.pen.now (counted_anew (counts_of c.args.pen.now) (c.measure.ensures.is i) (c.measure-2.ensures.is i))))
    ∙ ap (λ counts. within_limits (with_counts c.args.pen.now counts)) (counted-anew (counts_of c.args.pen.now) (shown c.args.self.now) new c.args.names.now is)
