use Rattle.std.proofs.Common.{◌≡◌}
use Rattle.std.specs.List.{filter, range_with_len}
use Rattle.cycle_walks.specs.Graph.{names}
use Rattle.dep_graph.proofs.graph.Graph.rdepends.Given as goal

abbrev pub invariant-loop-user : goal.invariant-loop-user
invariant-loop-user l = l.users.items ≡ filter (λ user. names l.self user l.task) (range_with_len 0 l.user)
