use Rattle.std.proofs.Common.{◌∙◌}
use Rattle.tree_map.proofs.Carried.{undone-copies}
use Rattle.tree_map.proofs.names.NameTable.carry.Goals as goal

pub returns-in-Err-clause-err : goal.returns-in-Err-clause-err
returns-in-Err-clause-err c = c.take_targets.ensures ∙ undone-copies c.args.self.now c.put_moved.new.self c.args.moves.now c.in-Err.ensures.others c.requires
