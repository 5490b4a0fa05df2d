use Rattle.tree_ops.proofs.Listing.{exactly-below, below-rise}
use Rattle.tree_ops.proofs.laws.names_below_are_exact.Goals as goal

pub returns-clause-exact : goal.returns-clause-exact
returns-clause-exact c = exactly-below

pub returns-clause-rise : goal.returns-clause-rise
returns-clause-rise c = below-rise
