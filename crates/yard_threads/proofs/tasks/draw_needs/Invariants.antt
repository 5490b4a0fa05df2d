use Rattle.std.proofs.Common.{◌≡◌, length}
use Rattle.yard_threads.proofs.tasks.draw_needs.Given as goal

abbrev pub invariant-loop : goal.invariant-loop
invariant-loop l = length l.graph ≡ 512
