use Rattle.dep_graph.proofs.OneOrder.{one_order as same_order, some_order, no_cycle_from, plain_order}
use Rattle.dep_graph.proofs.least_first.one_order.Goals as goal

pub returns-clause-same : goal.returns-clause-same
returns-clause-same c needs order other a b = same_order needs order other a b

pub returns-clause-made : goal.returns-clause-made
returns-clause-made c needs graph acyclic = some_order needs graph acyclic

pub returns-clause-none : goal.returns-clause-none
returns-clause-none c needs order graph is = no_cycle_from needs order graph is

pub returns-clause-once : goal.returns-clause-once
returns-clause-once c needs order is = plain_order needs order is
