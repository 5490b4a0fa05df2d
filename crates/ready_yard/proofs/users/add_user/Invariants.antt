use Rattle.std.proofs.Common.{◌≡◌, drop, length}
use Rattle.dep_graph.specs.Waiting.{used_by}
use Rattle.ready_yard.proofs.users.add_user.Given as goal

abbrev pub invariant-loop-need : goal.invariant-loop-need
invariant-loop-need l = record {
  rest : used_by l.users l.task (drop l.need-index l.needs) ≡ used_by l.fn.users l.task l.needs;
  sized : length l.users ≡ length l.fn.users;
}
