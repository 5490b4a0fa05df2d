use Rattle.std.proofs.Common.{◌≡◌, drop}
use Rattle.tree_map.specs.Lacking.{paths_of, without_keys}
use Rattle.tree_map.proofs.names.NameTable.remove_all.Given as goal

abbrev pub invariant-loop-at : goal.invariant-loop-at
invariant-loop-at l = without_keys (paths_of (drop l.at-index l.paths)) l.self ≡ without_keys (paths_of l.paths) l.fn.self
