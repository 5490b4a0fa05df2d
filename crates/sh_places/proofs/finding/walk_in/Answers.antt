use Rattle.sh_places.proofs.Sound.{site-sound}
use Rattle.sh_places.proofs.finding.walk_in.Goals as goal

pub resolve-requires-clause-sound : goal.resolve-requires-clause-sound
resolve-requires-clause-sound g c = site-sound g.T.TreeOps.tree g.T.TreeOps.sealed c.args.world.now c.args.site (g.T.TreeOps.tree c.in-Some.tree.now) c.requires.held c.in-Some.ensures
