use Rattle.std.proofs.Common.{sym, ap, ◌∙◌}
use Rattle.std.specs.FinMap as fin
use Rattle.br_path.proofs.Maps.{map-insert}
use Rattle.tree_ops.specs.Tree.{label_cmp}
use Rattle.tree_ops.proofs.Orders.{label_total, label_same}
use Rattle.tree_map.specs.Parts.{labels_of}
use Rattle.tree_map.proofs.Built.{laid_on, laid_on-empty, laid_on-last}
use Rattle.tree_map.proofs.labels.labels_from.Goals as goal

pub loop-label-init : goal.loop-label-init
loop-label-init c = ap (λ es. laid_on {R = label_cmp} c.args.pairs.items (fin.from_entries es)) c.new-labels.ensures.empty ∙ laid_on-empty c.args.pairs.items

pub loop-label-preserved-in_ok-insert : goal.loop-label-preserved-in_ok-insert
loop-label-preserved-in_ok-insert c =
    let put = map-insert label_total label_same c.loop-label.labels c.insert.new.self c.in-Some.label c.in-Some.contents c.in_ok-insert.ensures.updates.0 in
    ap (laid_on c.pop.new.self.items) put ∙ sym (laid_on-last c.pop.new.self.items (c.in-Some.label, c.in-Some.contents) (labels_of c.loop-label.labels))
    ∙ ap (λ es. laid_on es (labels_of c.loop-label.labels)) (sym c.in-Some.ensures.items) ∙ c.loop-label.invariant

pub loop-label-preserved : goal.loop-label-preserved
loop-label-preserved c =
    let put = map-insert label_total label_same c.loop-label.labels c.insert.new.self c.in-Some.label c.in-Some.contents c.in_ok-insert.ensures.updates.0 in
    ap (laid_on c.pop.new.self.items) put ∙ sym (laid_on-last c.pop.new.self.items (c.in-Some.label, c.in-Some.contents) (labels_of c.loop-label.labels))
    ∙ ap (λ es. laid_on es (labels_of c.loop-label.labels)) (sym c.in-Some.ensures.items) ∙ c.loop-label.invariant
