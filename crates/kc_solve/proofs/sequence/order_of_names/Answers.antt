use Rattle.std.proofs.Common.{subst}
use Rattle.cycle_walks.specs.Order.{IsFound}
use Rattle.kc_solve.specs.Sequence.{IsNameGraph}
use Rattle.kc_solve.proofs.Sequences.{order_up}
use Rattle.kc_solve.proofs.sequence.order_of_names.Goals as goal

pub returns-in-Order-clause-ok : goal.returns-in-Order-clause-ok
returns-in-Order-clause-ok c =
    let index = c.args.index.now in
    let rows = c.in_ok-graph.graph in
    let graph : IsNameGraph index.menu.now index.symbols rows =
    record { graph = c.in_ok-order.ensures.graph; nodes = c.in_ok-graph.ensures.nodes; names = c.in_ok-graph.ensures.names } in
    order_up index.menu.now index.symbols c.requires.symbols c.requires.declared rows graph c.in-Order.order (subst (IsFound rows) c.in-Order.is c.in_ok-order.ensures.found)
