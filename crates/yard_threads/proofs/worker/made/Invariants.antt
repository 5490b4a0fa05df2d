use Rattle.std.proofs.Common.{length}
use Rattle.yard_threads.specs.Reports.{IsReport}
use Rattle.yard_threads.proofs.worker.made.Given as goal

abbrev pub invariant-loop-need : goal.invariant-loop-need
invariant-loop-need g l = IsReport (g.C.Cells.board l.cells) (length l.graph) (g.C.Cells.of l.report.notes) l.report.found.items
