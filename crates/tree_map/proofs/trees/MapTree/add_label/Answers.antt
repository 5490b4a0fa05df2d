use Rattle.br_path.proofs.Maps.{map-insert}
use Rattle.tree_map.specs.Parts.{shown}
use Rattle.tree_ops.proofs.Orders.{label_total, label_same}
use Rattle.tree_map.proofs.trees.MapTree.add_label.Goals as goal

pub returns-clause-ok : goal.returns-clause-ok
returns-clause-ok c =
    let labels = map-insert label_total label_same c.args.self.now.labels c.insert.new.self c.args.label c.args.contents c.in_ok-insert.ensures.updates.0 in
    λ i. record { names = (shown c.args.self.now).names; labels = labels i }
