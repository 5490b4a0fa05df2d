use Rattle.std.proofs.Common.{arith}
use Rattle.dot_config.proofs.Readings.{few_lines}
use Rattle.build_report.specs.declared.fault.InputFault.TheVariants.{Wish, Solve}
use Rattle.br_run.specs.Configured.{HasNoSolution, unread, unsolved}
use Rattle.br_run.proofs.Told.{told}
use Rattle.br_run.proofs.configuration.solution_of.Goals as goal

pub read-requires : goal.read-requires
read-requires c = few_lines c.args.text.now (omega (arith, c.requires))

pub returns-in-Line-clause-fault : goal.returns-in-Line-clause-fault
returns-in-Line-clause-fault c =
    told (HasNoSolution c.args.menu.now c.args.text.now) _ (Wish c.in-Line.line) (unread c.in-Line.line (rw c.in-Line.is at c.in-Err.ensures.fault)) c.of.ensures

pub returns-clause-fault : goal.returns-clause-fault
returns-clause-fault c =
    told (HasNoSolution c.args.menu.now c.args.text.now) _ (Solve c.in-Err-solve.fault)
    (unsolved _ c.in-Err-solve.fault c.in-Ok.ensures.wishes c.in-Err-solve.ensures.err c.in_default.not-Memory) c.of-in_default.ensures
