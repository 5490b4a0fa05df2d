use Rattle.br_words.proofs.Right.{Gives-IsReading}
use Rattle.br_words.proofs.command.Words.read.Goals as goal

pub returns : goal.returns
returns c = Gives-IsReading _ _ c.read_words.ensures
