use Rattle.br_path.proofs.Maps.{map-remove}
use Rattle.tree_ops.proofs.Orders.{label_total, label_same}
use Rattle.tree_map.specs.Parts.{labels_of}
use Rattle.tree_map.proofs.Lacked.{without_keys-more}
use Rattle.tree_map.proofs.adding.remove_labels.Goals as goal

pub loop-label-preserved : goal.loop-label-preserved
loop-label-preserved c =
    without_keys-more label_total label_same c.args.gone.now c.loop-label.label-index _ (labels_of c.loop-label.labels) (labels_of c.remove.new.self) _ c.loop-label-test.true
    (map-remove label_total label_same c.loop-label.labels c.remove.new.self _ c.remove.ensures.updates.0) c.loop-label.invariant
