use Rattle.sh_words.proofs.WrittenLaws.{written_reads}
use Rattle.sh_words.proofs.laws.written_is_read.Goals as goal

pub returns : goal.returns
returns c = written_reads
