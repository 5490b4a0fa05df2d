use Rattle.std.proofs.Common.{◌≡◌, map, drop}
use Rattle.tree_map.specs.Moving.{without_paths}
use Rattle.tree_map.proofs.names.NameTable.take_targets.Given as goal

abbrev pub invariant-loop-one : goal.invariant-loop-one
invariant-loop-one l = without_paths (map (λ one. one.to) (drop l.one-index l.moves)) l.self ≡ without_paths (map (λ one. one.to) l.moves) l.fn.self
