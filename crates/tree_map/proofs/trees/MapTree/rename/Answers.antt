use Rattle.tree_map.specs.Parts.{shown}
use Rattle.tree_map.proofs.Renamed.{moved-refused}
use Rattle.tree_map.proofs.trees.MapTree.rename.Goals as goal

pub returns-in-Err : goal.returns-in-Err
returns-in-Err c = moved-refused (shown c.args.self.now, c.args.pen.now) c.args.old.now c.args.at.now c.in-Err.fault c.in-Err.ensures
