use Rattle.std.proofs.Common.{length}
use Rattle.yard_threads.specs.Reports.{IsReport}
use Rattle.yard_threads.proofs.worker.work.Given as goal

abbrev pub invariant-loop : goal.invariant-loop
invariant-loop g l = IsReport (g.C.Cells.board l.cells) (length l.graph) (g.C.Cells.of l.report.notes) l.report.found.items
