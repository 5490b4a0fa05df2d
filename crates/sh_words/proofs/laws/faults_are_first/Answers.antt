use Rattle.sh_words.proofs.FirstLaws.{unsupported_first, open_begins}
use Rattle.sh_words.proofs.laws.faults_are_first.Goals as goal

pub returns-clause-unsupported : goal.returns-clause-unsupported
returns-clause-unsupported c = unsupported_first

pub returns-clause-quote : goal.returns-clause-quote
returns-clause-quote c = open_begins
