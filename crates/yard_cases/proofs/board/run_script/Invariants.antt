use Rattle.std.proofs.Common.{◌≡◌}
use Rattle.yard_cases.proofs.board.run_script.Given as goal

abbrev pub invariant-loop-line : goal.invariant-loop-line
invariant-loop-line g l = record {
  first : g.C.Cells.of l.first ≡ g.C.Cells.board l.board;
  second : g.C.Cells.of l.second ≡ g.C.Cells.board l.board;
}
