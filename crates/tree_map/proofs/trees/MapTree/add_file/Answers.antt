use Rattle.std.proofs.Common.{rules}
use Rattle.tree_map.proofs.Undone.{undone}
use Rattle.tree_map.proofs.trees.MapTree.add_file.Goals as goal

pub returns-in-Err-clause-err : goal.returns-in-Err-clause-err
returns-in-Err-clause-err c = undone _ _ _ _ c.args.at.now _ c.requires c.in_ok-add_name.ensures.ok c.in-Err.ensures.err (search rules)
