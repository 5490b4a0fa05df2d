use Rattle.std.proofs.Common.{sym, ap, ◌∙◌}
use Rattle.tree_worlds.specs.World.{world_data}
use Rattle.sh_places.specs.Looks as looks
use Rattle.sh_places.proofs.Sound.{behind_ref}
use Rattle.sh_places.proofs.looks.tree_of.Goals as goal

pub returns-in-Readable : goal.returns-in-Readable
returns-in-Readable g c = behind_ref g.T.TreeOps.tree c.shown_tree.result ∙ c.shown_tree.ensures.tree ∙ ap (looks.tree_of (world_data g.T.TreeOps.tree c.args.world.now)) (sym c.in-Readable.is)
