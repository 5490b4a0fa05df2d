use Rattle.std.proofs.Common.{ap, ◌∙◌}
use Rattle.std.specs.Option.{option_map}
use Rattle.tree_worlds.proofs.Showing.{tree_shown, readable-shown}
use Rattle.tree_worlds.proofs.world.World.shown_tree.Goals as goal

pub returns-clause-tree : goal.returns-clause-tree
returns-clause-tree g c = ap (option_map g.T.TreeOps.tree) c.tree_of.ensures ∙ tree_shown g.T.TreeOps.tree g.T.TreeOps.sealed c.args.self.now.shown c.args.task

pub returns-clause-readable : goal.returns-clause-readable
returns-clause-readable g c held = readable-shown g.T.TreeOps.tree g.T.TreeOps.sealed c.args.self.now.shown c.args.task c.tree_of.result c.tree_of.ensures held.shown
