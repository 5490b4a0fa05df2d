use Rattle.std.proofs.Common.{sym, ap, ◌∙◌}
use Rattle.br_path.specs.Path.{path_cmp}
use Rattle.tree_map.proofs.Built.{laid_on, laid_on-empty, laid_on-last}
use Rattle.tree_map.proofs.names.table_of.Goals as goal

pub loop-at-init : goal.loop-at-init
loop-at-init c = ap (laid_on {R = path_cmp} c.args.pairs.items) c.new-table.ensures ∙ laid_on-empty c.args.pairs.items

pub loop-at-preserved : goal.loop-at-preserved
loop-at-preserved c =
    ap (laid_on c.pop.new.self.items) c.in_ok-insert.ensures.ok ∙ sym (laid_on-last c.pop.new.self.items (c.in-Some.at, c.in-Some.node) c.loop-at.table)
    ∙ ap (λ es. laid_on es c.loop-at.table) (sym c.in-Some.ensures.items) ∙ c.loop-at.invariant
