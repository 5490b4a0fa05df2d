use Rattle.std.proofs.Common.{ap, ◌∙◌}
use Rattle.tree_ops.specs.Pen.{counts_of, with_counts, within_limits}
use Rattle.tree_ops.specs.Change.{counted_anew}
use Rattle.tree_map.specs.Lacking.{paths_of}
use Rattle.tree_map.specs.Parts.{shown}
use Rattle.tree_map.proofs.LaidOver.{counted-lacked}
use Rattle.tree_map.proofs.trees.MapTree.counted_lacked.Goals as goal

pub returns : goal.returns
returns c new is =
    c.counted_anew.ensures ∙ (λ i. within_limits (with_counts c.args.pen.now (counted_anew (counts_of c.args.pen.now) (0, 0) (c.measure_paths.ensures.is i))))
    ∙ ap (λ counts. within_limits (with_counts c.args.pen.now counts))
    (counted-lacked (shown c.args.self.now) (shown c.args.from.now) (counts_of c.args.pen.now) new (paths_of c.args.paths.now) c.requires.same c.requires.lacked is)
