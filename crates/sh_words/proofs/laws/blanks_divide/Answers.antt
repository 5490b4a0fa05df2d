use Rattle.sh_words.proofs.WrittenLaws.{blanks_before, blanks_behind, plain_reads}
use Rattle.sh_words.proofs.laws.blanks_divide.Goals as goal

pub returns-clause-before : goal.returns-clause-before
returns-clause-before c = blanks_before

pub returns-clause-behind : goal.returns-clause-behind
returns-clause-behind c = blanks_behind

pub returns-clause-plain : goal.returns-clause-plain
returns-clause-plain c = plain_reads
