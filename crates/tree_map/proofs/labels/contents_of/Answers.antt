use Rattle.std.proofs.Common.{sym, ◌∙◌}
use Rattle.br_path.proofs.Maps.{get-entries_of}
use Rattle.tree_ops.proofs.Orders.{label_total}
use Rattle.tree_map.proofs.labels.contents_of.Goals as goal

pub returns : goal.returns
returns c = c.get.ensures.value ∙ sym (get-entries_of label_total c.args.labels.now c.args.label.now)
