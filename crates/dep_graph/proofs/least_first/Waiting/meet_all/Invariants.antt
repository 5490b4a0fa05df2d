use Rattle.std.proofs.Common.{◌≡◌, drop, length}
use Rattle.dep_graph.specs.Waiting.{fewer_at}
use Rattle.dep_graph.proofs.least_first.Waiting.meet_all.Given as goal

abbrev pub invariant-loop-task : goal.invariant-loop-task
invariant-loop-task l = record {
  rest : fewer_at l.self.stands.items (drop l.task-index l.tasks) ≡ fewer_at l.fn.self.stands.items l.tasks;
  sized : length l.self.stands.items ≡ length l.fn.self.stands.items;
  taken : l.self.taken.items ≡ l.fn.self.taken.items;
}
