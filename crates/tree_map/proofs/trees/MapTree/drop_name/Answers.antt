use Rattle.tree_map.specs.Parts.{shown}
use Rattle.tree_map.proofs.trees.MapTree.drop_name.Goals as goal

pub returns : goal.returns
returns c i = record { names = c.remove.ensures i; labels = (shown c.args.self.now).labels }
