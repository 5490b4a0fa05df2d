use Rattle.std.proofs.Common.{◌∙◌}
use Rattle.std.specs.FinMap as fin
use Rattle.br_path.proofs.Maps.{map-insert}
use Rattle.tree_ops.proofs.Orders.{label_total, label_same}
use Rattle.tree_map.proofs.Undone.{put-is_there, set_back-insert}
use Rattle.tree_map.proofs.trees.MapTree.renew.Goals as goal

pub set_back-requires : goal.set_back-requires
set_back-requires c = put-is_there c.args.self.now.labels c.insert.new.self c.args.to c.args.contents c.in_ok-before.ensures.updates.0

pub returns-in-Ok-clause-ok : goal.returns-in-Ok-clause-ok
returns-in-Ok-clause-ok c =
    let labels = map-insert label_total label_same c.args.self.now.labels c.insert.new.self c.args.to c.args.contents c.in_ok-before.ensures.updates.0 in
    c.drop_label.ensures ∙ (λ i. record { names = c.in-Ok.ensures.ok i; labels = fin.remove (labels i) c.args.from })

pub returns-in-Err-clause-err : goal.returns-in-Err-clause-err
returns-in-Err-clause-err c =
    let labels = c.set_back.ensures ∙ set_back-insert c.args.self.now.labels c.insert.new.self c.args.to c.args.contents c.in_ok-before.before c.in_ok-before.ensures.updates.0 c.in_ok-before.ensures.old in
    λ i. record { names = c.in-Err.ensures.err i; labels = labels i }
