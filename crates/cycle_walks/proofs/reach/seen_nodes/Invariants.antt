use Rattle.std.proofs.Common.{◌≡◌}
use Rattle.std.specs.List.{filter, range_with_len}
use Rattle.cycle_walks.specs.Reach.{is_seen}
use Rattle.cycle_walks.proofs.reach.seen_nodes.Given as goal

abbrev pub invariant-loop-node : goal.invariant-loop-node
invariant-loop-node l = l.nodes.items ≡ filter (is_seen l.seen) (range_with_len 0 l.node)
