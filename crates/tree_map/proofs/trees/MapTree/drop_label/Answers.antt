use Rattle.br_path.proofs.Maps.{map-remove}
use Rattle.tree_map.specs.Parts.{shown}
use Rattle.tree_ops.proofs.Orders.{label_total, label_same}
use Rattle.tree_map.proofs.trees.MapTree.drop_label.Goals as goal

pub returns : goal.returns
returns c =
    let labels = map-remove label_total label_same c.args.self.now.labels c.remove.new.self c.args.label.now c.remove.ensures.updates.0 in
    λ i. record { names = (shown c.args.self.now).names; labels = labels i }
