use Rattle.std.proofs.Common.{sym, ◌∙◌}
use Rattle.tree_worlds.proofs.Naming.{readable_shown}
use Rattle.tree_worlds.proofs.world.World.readable.Goals as goal

pub returns : goal.returns
returns g c = c.task_of.ensures ∙ sym (readable_shown g.T.TreeOps.tree c.args.self.now.shown c.args.name.now)
