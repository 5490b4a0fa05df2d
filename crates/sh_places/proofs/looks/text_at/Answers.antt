use Rattle.std.proofs.Common.{refl, subst}
use Rattle.tree_ops.specs.Tree.{IsLinkText}
use Rattle.tree_worlds.specs.World.{world_data}
use Rattle.sh_places.specs.Looks.{tree_of}
use Rattle.sh_places.proofs.Sound.{link-text, text-found}
use Rattle.sh_places.proofs.looks.text_at.Goals as goal

pub returns-in-Some-clause-link : goal.returns-in-Some-clause-link
returns-in-Some-clause-link g c files link =
    subst IsLinkText
    (text-found c.args.spot.now.path (tree_of (world_data g.T.TreeOps.tree c.args.world.now) c.args.spot.now.site) (g.T.TreeOps.tree c.in-Some.tree.now) c.text.result _ c.unwrap_or.result c.in-Some.ensures c.text.ensures refl c.unwrap_or.ensures)
    (link-text g.T.TreeOps.tree g.T.TreeOps.sealed c.args.world.now files c.args.spot.now.path c.args.spot.now.site c.requires.held link)
