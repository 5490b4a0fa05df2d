use Rattle.std.proofs.Common.{length, subst}
use Rattle.cycle_walks.specs.Graph.{names}
use Rattle.cycle_walks.specs.Order.{IsFound}
use Rattle.cycle_walks.proofs.Ordered.{no_cycle}
use Rattle.cycle_walks.proofs.least.least_on_cycle.Goals as goal

pub returns-in-Order : goal.returns-in-Order
returns-in-Order c =
    let g = c.args.graph.now in
    no_cycle (length g) (names g) c.in-Order.field-0 c.order.ensures.graph.closed (subst (IsFound g) c.in-Order.is c.in_ok-order.ensures.found)
