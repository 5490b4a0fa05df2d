use Rattle.std.proofs.Common.{Some, sym, ap, ◌∙◌}
use Rattle.br_path.proofs.Maps.{get-entries_of, map-insert}
use Rattle.tree_ops.proofs.Orders.{label_total, label_same}
use Rattle.tree_map.specs.Lacking.{put_at}
use Rattle.tree_map.specs.Parts.{labels_of}
use Rattle.tree_map.proofs.adding.put_label_from.Goals as goal

pub returns-in-None-clause-ok : goal.returns-in-None-clause-ok
returns-in-None-clause-ok c = ap (put_at (labels_of c.args.labels.now) c.args.label) (c.in-None.ensures.value ∙ sym (get-entries_of label_total c.args.high.now c.args.label))

pub returns-clause-ok : goal.returns-clause-ok
returns-clause-ok c =
    map-insert label_total label_same c.args.labels.now c.insert.new.self c.args.label c.in_ok-contents-in-Some.contents c.in_ok-insert.ensures.updates.0
    ∙ ap (put_at (labels_of c.args.labels.now) c.args.label) (ap Some c.in_ok-contents-in-Some.ensures ∙ c.in-Some.ensures.value ∙ sym (get-entries_of label_total c.args.high.now c.args.label))
