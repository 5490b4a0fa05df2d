use Rattle.std.proofs.Common.{take}
use Rattle.ready_yard.specs.History.{IsLegal}
use Rattle.ready_yard.specs.Judged.{IsPast}
use Rattle.ready_yard.proofs.checker.judge.Given as goal

abbrev pub invariant-loop-place : goal.invariant-loop-place
invariant-loop-place l = record {
  past : IsPast l.graph l.workers l.past.begun.items l.past.over.items l.past.hands.items (take l.place l.turns);
  legal : IsLegal l.graph l.workers (take l.place l.turns);
}
