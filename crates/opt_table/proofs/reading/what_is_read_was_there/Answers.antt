use Rattle.opt_table.proofs.Kept.{given-row, read-some}
use Rattle.opt_table.proofs.reading.what_is_read_was_there.Goals as goal

pub returns-clause-letters : goal.returns-clause-letters
returns-clause-letters c = given-row

pub returns-clause-operands : goal.returns-clause-operands
returns-clause-operands c = read-some
