use Rattle.sh_words.proofs.LineLaws.{text_line, text_fault}
use Rattle.sh_words.proofs.laws.texts_are_lines.Goals as goal

pub returns-clause-line : goal.returns-clause-line
returns-clause-line c = text_line

pub returns-clause-fault : goal.returns-clause-fault
returns-clause-fault c = text_fault
