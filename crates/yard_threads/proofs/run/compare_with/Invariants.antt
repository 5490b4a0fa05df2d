use Rattle.std.proofs.Common.{◌≡◌, length}
use Rattle.std.specs.Prelude.{IfSome}
use Rattle.std.specs.List.{All}
use Rattle.yard_threads.specs.Reports.{IsReport}
use Rattle.yard_threads.proofs.run.compare_with.Given as goal

abbrev pub invariant-loop-place : goal.invariant-loop-place
invariant-loop-place g l = record {
  notes : g.C.Cells.of l.notes ≡ g.C.Cells.board l.cells;
  len : length l.reports.items ≡ length l.fn.reports.items;
  reports : All (λ o. IfSome o (λ r. IsReport (g.C.Cells.board l.cells) (length l.graph) (g.C.Cells.of r.notes) r.found.items)) l.reports.items;
}
