use Rattle.std.proofs.Common.{subst}
use Rattle.mk_syntax.specs.Lines.{joined_lines}
use Rattle.mk_syntax.specs.Reading.{IsReading, reading}
use Rattle.mk_syntax.proofs.Answers.{ok_answer, err_answer}
use Rattle.mk_syntax.proofs.reader.read.Goals as goal

pub returns-clause-recipe : goal.returns-clause-recipe
returns-clause-recipe c =
    ok_answer (joined_lines c.args.text.now) c.read_lines.result (subst (λ lines. IsReading (reading lines) c.read_lines.result) c.in_ok-joined_lines.ensures c.read_lines.ensures)

pub returns-clause-fault : goal.returns-clause-fault
returns-clause-fault c =
    err_answer (joined_lines c.args.text.now) c.read_lines.result (subst (λ lines. IsReading (reading lines) c.read_lines.result) c.in_ok-joined_lines.ensures c.read_lines.ensures)
