use Rattle.std.proofs.Common.{◌∙◌}
use Rattle.tree_ops.proofs.Orders.{label_total, label_same}
use Rattle.tree_map.specs.Parts.{labels_of}
use Rattle.tree_map.proofs.Lacked.{undone-lacked}
use Rattle.tree_map.proofs.adding.add_lacked_labels.Goals as goal

pub returns-in-Err-clause-err : goal.returns-in-Err-clause-err
returns-in-Err-clause-err c =
    c.remove_labels.ensures
    ∙ undone-lacked label_total label_same (labels_of c.args.labels.now) (labels_of c.args.high.now) (labels_of c.put_labels_from.new.labels) c.args.added.now c.requires c.in-Err.ensures.others
