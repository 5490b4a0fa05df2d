use Rattle.std.proofs.Common.{◌≡◌, ◌++◌, not}
use Rattle.std.specs.FinMap as fin
use Rattle.std.specs.FinMap.Entries.{where_key}
use Rattle.br_path.specs.Path.{path_cmp}
use Rattle.tree_map.specs.NameTable.{hides}
use Rattle.tree_map.proofs.names.NameTable.copy_shown_into.Given as goal

abbrev pub invariant-loop-at : goal.invariant-loop-at
invariant-loop-at l = l.pairs.items ++ where_key path_cmp (λ at. not (hides l.high at)) l.at-iterator ≡ l.fn.pairs.items ++ where_key path_cmp (λ at. not (hides l.high at)) (fin.entries l.self)
