use Rattle.std.proofs.Common.{◌≡◌, length}
use Rattle.std.specs.Prelude.{IfSome}
use Rattle.std.specs.List.{All}
use Rattle.yard_threads.specs.Reports.{IsReport}
use Rattle.yard_threads.proofs.run.settle.Given as goal

abbrev pub invariant-loop-last : goal.invariant-loop-last
invariant-loop-last g l = record {
  found : length l.found.items ≡ length l.serial.items;
  reports : All (λ o. IfSome o (λ r. IsReport (g.C.Cells.board l.cells) (length l.graph) (g.C.Cells.of r.notes) r.found.items)) l.reports.items;
}

abbrev pub decreases-loop-last : goal.decreases-loop-last
decreases-loop-last g l = length l.reports.items
