use Rattle.std.proofs.Common.{sym, ◌∙◌}
use Rattle.br_path.proofs.Maps.{get-entries_of}
use Rattle.tree_map.proofs.trees.MapTree.shared_contents.Goals as goal
use Rattle.tree_ops.proofs.Orders.{label_total}

pub returns : goal.returns
returns c = c.get.ensures.value ∙ sym (get-entries_of label_total c.args.self.now.labels c.args.label.now)
