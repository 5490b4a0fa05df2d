use Rattle.kc_text.proofs.Complete.{line_parts, line_open}
use Rattle.kc_text.proofs.lexer.lines_have_parts.Goals as goal

pub returns-clause-parts : goal.returns-clause-parts
returns-clause-parts c line found = line_parts line found

pub returns-clause-open : goal.returns-clause-open
returns-clause-open c line = line_open line
