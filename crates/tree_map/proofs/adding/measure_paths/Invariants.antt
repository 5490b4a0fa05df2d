use Rattle.std.proofs.Common.{◌≡◌, ◌+◌, ◌*◌, ◌≤◌, length, drop}
use Rattle.std.specs.List.{sum_by}
use Rattle.br_path.specs.Path.{rooted_text}
use Rattle.tree_map.specs.Lacking.{paths_of}
use Rattle.tree_map.proofs.adding.measure_paths.Given as goal

-- the bytes so far, and the rest
abbrev pub invariant-loop-at : goal.invariant-loop-at
invariant-loop-at l = record {
  all : l.bytes + sum_by (λ at. length (rooted_text at)) (paths_of (drop l.at-index l.paths)) ≡ sum_by (λ at. length (rooted_text at)) (paths_of l.paths);
  small : l.bytes ≤ 1025 * l.at-index;
}
