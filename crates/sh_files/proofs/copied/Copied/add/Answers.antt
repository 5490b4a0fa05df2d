use Rattle.br_path.proofs.Maps.{map-insert}
use Rattle.tree_ops.proofs.Orders.{label_total, label_same}
use Rattle.sh_files.proofs.copied.Copied.add.Goals as goal

pub returns : goal.returns
returns c = map-insert label_total label_same c.args.self.now.places c.insert.new.self c.args.label c.args.place c.in_ok-insert.ensures.updates.0
