use Rattle.std.proofs.Common.{◌≡◌, length, take}
use Rattle.ready_yard.specs.Kept.{IsMet}
use Rattle.ready_yard.proofs.waiting.Waiting.meet_all.Given as goal

abbrev pub invariant-loop-user : goal.invariant-loop-user
invariant-loop-user l = record {
  sized : length l.self.unmet.items ≡ length l.fn.self.unmet.items;
  met : IsMet l.fn.self.unmet.items l.fn.self.ready (take l.user-index l.users) l.self.unmet.items l.self.ready;
}
