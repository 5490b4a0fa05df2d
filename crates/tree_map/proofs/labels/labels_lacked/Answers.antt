use Rattle.std.proofs.Common.{◌++◌, sym, ap, ◌∙◌}
use Rattle.br_path.proofs.Maps.{entries-of}
use Rattle.tree_ops.proofs.Orders.{label_total}
use Rattle.tree_map.specs.Lacking.{clash, is_contents, lacking}
use Rattle.tree_map.specs.Parts.{labels_of}
use Rattle.tree_map.proofs.labels.labels_lacked.Goals as goal

pub loop-label-init : goal.loop-label-init
loop-label-init c =
    let gives = c.into_iter-label-iterator.ensures.into_iter_gives in
    let all = gives.0 ∙ sym (entries-of label_total c.args.high.now gives.5) in
    record {
      labels = λ i. c.new-labels.ensures.items i ++ lacking (labels_of c.args.low.now) (all i);
      same = ap (clash is_contents (labels_of c.args.low.now)) all;
    }
