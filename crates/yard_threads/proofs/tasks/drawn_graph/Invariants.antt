use Rattle.std.proofs.Common.{◌≡◌, length}
use Rattle.yard_threads.proofs.tasks.drawn_graph.Given as goal

abbrev pub invariant-loop-place : goal.invariant-loop-place
invariant-loop-place l = length l.graph ≡ 512
