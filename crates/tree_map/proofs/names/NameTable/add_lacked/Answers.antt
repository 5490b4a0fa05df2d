use Rattle.std.proofs.Common.{◌∙◌}
use Rattle.br_path.proofs.PathOrder.{path_total, path_same}
use Rattle.tree_map.specs.Lacking.{paths_of}
use Rattle.tree_map.proofs.Lacked.{undone-lacked}
use Rattle.tree_map.proofs.names.NameTable.add_lacked.Goals as goal

pub returns-in-Err-clause-err : goal.returns-in-Err-clause-err
returns-in-Err-clause-err c =
    c.remove_all.ensures ∙ undone-lacked path_total path_same c.args.self.now c.args.high.now c.put_all_from.new.self (paths_of c.args.paths.now) c.requires c.in-Err.ensures.others
