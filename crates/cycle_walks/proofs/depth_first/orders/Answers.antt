use Rattle.cycle_walks.proofs.Bottoms.{order_of}
use Rattle.cycle_walks.proofs.Ordered.{no_cycle}
use Rattle.cycle_walks.proofs.depth_first.orders.Goals as goal

pub returns-clause-made : goal.returns-clause-made
returns-clause-made c count names closed acyclic = order_of count names closed acyclic

pub returns-clause-none : goal.returns-clause-none
returns-clause-none c count names order closed is = no_cycle count names order closed is
