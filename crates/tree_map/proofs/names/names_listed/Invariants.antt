use Rattle.std.proofs.Common.{length}
use Rattle.tree_map.proofs.Children.{IsListed, past}
use Rattle.tree_map.proofs.names.names_listed.Given as goal

abbrev pub invariant-loop-path : goal.invariant-loop-path
invariant-loop-path l = IsListed l.at l.names.entries l.below.items l.from

-- the names that are left
abbrev pub decreases-loop-path : goal.decreases-loop-path
decreases-loop-path l = length (past l.from l.names.entries)
