use Rattle.pkg_steps.proofs.Taking.{if_ok}
use Rattle.pkg_steps.proofs.Untouched.{empty-sealed}
use Rattle.pkg_steps.proofs.shelving.empty_tree.Goals as goal

pub returns-clause-sealed : goal.returns-clause-sealed
returns-clause-sealed g c = if_ok c.empty.result (λ t is. empty-sealed g.T.TreeOps.tree g.T.TreeOps.sealed t is) c.empty.ensures
