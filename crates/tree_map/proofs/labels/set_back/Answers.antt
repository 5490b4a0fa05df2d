use Rattle.std.proofs.Common.{sym, ap, ◌∙◌}
use Rattle.br_path.proofs.Maps.{map-remove}
use Rattle.tree_ops.proofs.Orders.{label_total, label_same}
use Rattle.tree_map.specs.Parts.{labels_of, set_back}
use Rattle.tree_map.proofs.Undone.{label-put}
use Rattle.tree_map.proofs.labels.set_back.Goals as goal

pub returns-in-None : goal.returns-in-None
returns-in-None c = map-remove label_total label_same c.args.labels.now c.remove.new.self c.args.label c.remove.ensures.updates.0 ∙ ap (set_back (labels_of c.args.labels.now) c.args.label) (sym c.in-None.is)

pub returns-in-Some : goal.returns-in-Some
returns-in-Some c =
    label-put c.args.labels.now c.insert.new.self c.args.label c.in-Some.contents c.insert.result c.insert.ensures.updates c.insert.ensures.absent c.requires
    ∙ ap (set_back (labels_of c.args.labels.now) c.args.label) (sym c.in-Some.is)
