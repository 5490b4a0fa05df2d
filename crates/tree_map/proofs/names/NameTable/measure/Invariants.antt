use Rattle.std.proofs.Common.{◌≡◌, ◌+◌, ◌*◌, ◌≤◌, ◌<◌, ◌^◌, length}
use Rattle.std.specs.List.{sum_by}
use Rattle.br_path.specs.Path.{rooted_text}
use Rattle.tree_map.proofs.names.NameTable.measure.Given as goal

-- the bytes so far, and the rest
abbrev pub invariant-loop-at : goal.invariant-loop-at
invariant-loop-at l = record {
  all : l.bytes + sum_by (λ entry. length (rooted_text entry.0)) l.at-iterator ≡ sum_by (λ entry. length (rooted_text entry.0)) l.self-inside.names.entries;
  few : length l.self-inside.names.entries < 2 ^ 63;
  small : l.bytes + 1025 * length l.at-iterator ≤ 1025 * length l.self-inside.names.entries;
}
