use Rattle.std.proofs.Common.{◌≡◌, map, drop}
use Rattle.tree_map.specs.Moving.{without_paths}
use Rattle.tree_map.proofs.names.NameTable.take_sources.Given as goal

abbrev pub invariant-loop-one : goal.invariant-loop-one
invariant-loop-one l = without_paths (map (λ one. one.from) (drop l.one-index l.moves)) l.self ≡ without_paths (map (λ one. one.from) l.moves) l.fn.self
