use Rattle.std.proofs.Common.{sym, ap, ◌==◌, ◌∙◌}
use Rattle.std.specs.List.{list_any}
use Rattle.br_path.proofs.Maps.{entries-of}
use Rattle.tree_ops.proofs.Orders.{label_total}
use Rattle.tree_map.proofs.Values.{any-keys}
use Rattle.tree_map.proofs.labels.has_label_of.Goals as goal

pub returns : goal.returns
returns c = c.any_of_task.ensures.any ∙ any-keys (λ label. label.task == c.args.task) c.args.labels.now.entries
    ∙ ap (list_any (λ e. e.0.task == c.args.task)) (sym (entries-of label_total c.args.labels.now c.any_of_task.ensures.ordered))
