use Rattle.kc_rows.proofs.Read.{row_read}
use Rattle.kc_rows.proofs.Rows.{row_is, one_row}
use Rattle.kc_rows.proofs.table.lines_are_rows.Goals as goal

pub returns : goal.returns
returns c = record { read = row_read; found = row_is; once = one_row }
