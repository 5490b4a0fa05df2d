use Rattle.dot_config.proofs.Written.{written_is_read}
use Rattle.dot_config.proofs.laws.written_is_read.Goals as goal

pub returns : goal.returns
returns c = written_is_read
