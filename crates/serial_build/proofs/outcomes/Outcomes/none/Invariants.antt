use Rattle.std.proofs.Common.{◌≡◌, length}
use Rattle.serial_build.proofs.Empty.{AreNone}
use Rattle.serial_build.proofs.outcomes.Outcomes.none.Given as goal

-- so many shelves of tasks that haven't run
abbrev pub invariant-loop : goal.invariant-loop
invariant-loop g l = record {
  count : length l.items.items ≡ l.counter;
  none : AreNone l.items.items;
}
