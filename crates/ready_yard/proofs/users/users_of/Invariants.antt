use Rattle.std.proofs.Common.{◌≡◌, length}
use Rattle.dep_graph.proofs.Users.{AreUsersBelow}
use Rattle.ready_yard.proofs.users.users_of.Given as goal

abbrev pub invariant-loop-task : goal.invariant-loop-task
invariant-loop-task l = record {
  sized : length l.users ≡ length l.graph;
  below : AreUsersBelow l.graph l.task l.users;
}
