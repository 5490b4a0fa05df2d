use Rattle.tree_ops.proofs.Orders.{label_total, label_same}
use Rattle.tree_map.specs.Parts.{labels_of}
use Rattle.tree_map.proofs.Lacked.{with_keys-more, others-more}
use Rattle.tree_map.proofs.adding.put_labels_from.Goals as goal

pub loop-label-preserved : goal.loop-label-preserved
loop-label-preserved c = record {
  put = with_keys-more label_total label_same c.args.added.now c.loop-label.label-index _ (labels_of c.args.high.now) (labels_of c.loop-label.labels) (labels_of c.put_label_from.new.labels) _ c.loop-label-test.true c.in_ok-put_label_from.ensures.ok c.loop-label.invariant.put;
  others = λ q none.
      others-more label_total label_same c.args.added.now c.loop-label.label-index _ (labels_of c.args.high.now) (labels_of c.loop-label.labels) (labels_of c.put_label_from.new.labels) (labels_of c.args.labels.now) q c.loop-label-test.true
      c.in_ok-put_label_from.ensures.ok (c.loop-label.invariant.others q none);
}
