use Rattle.br_words.proofs.OneAnswer.{has_one_answer}
use Rattle.br_words.proofs.command.one_answer.Goals as goal

pub returns : goal.returns
returns c = has_one_answer
