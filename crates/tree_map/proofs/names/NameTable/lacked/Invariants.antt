use Rattle.std.proofs.Common.{◌≡◌, ◌++◌}
use Rattle.std.specs.FinMap as fin
use Rattle.tree_map.specs.Lacking.{clash, is_node, lacking, paths_of}
use Rattle.tree_map.proofs.names.NameTable.lacked.Given as goal

abbrev pub invariant-loop-at : goal.invariant-loop-at
invariant-loop-at l = record {
  paths : paths_of l.paths.items ++ lacking l.self l.at-iterator ≡ lacking l.self (fin.entries l.high);
  same : clash is_node l.self l.at-iterator ≡ clash is_node l.self (fin.entries l.high);
}
