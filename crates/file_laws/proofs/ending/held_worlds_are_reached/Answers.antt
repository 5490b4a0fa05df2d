use Rattle.file_laws.proofs.Held.{held_reached}
use Rattle.file_laws.proofs.ending.held_worlds_are_reached.Goals as goal

pub returns : goal.returns
returns g c = held_reached g.T.TreeOps.tree g.T.TreeOps.sealed
