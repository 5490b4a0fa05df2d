use Rattle.std.proofs.Common.{sym, subst, ap, ◌∙◌, arith}
use Rattle.cycle_walks.specs.Descent.{shown, unmet, IsDescent}
use Rattle.cycle_walks.proofs.Descents.{nothing_met, order_found}
use Rattle.cycle_walks.proofs.depth_first.order.Goals as goal

pub loop-node-init : goal.loop-node-init
loop-node-init c =
    let is = c.in_ok-descent.ensures ∙ ap unmet c.count-count.ensures.count in
    record {
      descent = subst (IsDescent c.args.graph.now) (sym is) (nothing_met c.args.graph.now);
      shut = ap (λ s. s.path) is;
      met = λ node below mark. absurd (omega arith);
    }

pub returns-clause-found : goal.returns-clause-found
returns-clause-found c =
    let l = c.loop-node.invariant in
    order_found c.args.graph.now (shown c.loop-node.descent) l.descent l.shut (λ node below. l.met node (omega (arith, c.count-count.ensures.count)))
