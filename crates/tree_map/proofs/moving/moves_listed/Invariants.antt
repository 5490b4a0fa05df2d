use Rattle.tree_map.proofs.Gathered.{AreGathered}
use Rattle.tree_map.proofs.moving.moves_listed.Given as goal

abbrev pub invariant-loop-path : goal.invariant-loop-path
invariant-loop-path l = AreGathered l.old l.at l.names.entries l.moves.items l.path-iterator
