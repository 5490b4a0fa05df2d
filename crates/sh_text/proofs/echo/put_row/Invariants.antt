use Rattle.std.proofs.Common.{◌≡◌, ◌++◌, drop}
use Rattle.sh_text.specs.Printing.{row, row_behind}
use Rattle.sh_text.proofs.echo.put_row.Given as goal

abbrev pub invariant-loop-word : goal.invariant-loop-word
invariant-loop-word l = l.initial.out.items ++ row l.words ≡ l.out.items ++ row_behind l.gap (drop l.word-index l.words)
