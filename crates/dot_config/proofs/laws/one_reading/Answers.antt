use Rattle.dot_config.proofs.Readings.{one_reading, one_fault, some_reading, no_reading}
use Rattle.dot_config.proofs.laws.one_reading.Goals as goal

pub returns-clause-wishes : goal.returns-clause-wishes
returns-clause-wishes c = one_reading

pub returns-clause-fault : goal.returns-clause-fault
returns-clause-fault c = one_fault

pub returns-clause-some : goal.returns-clause-some
returns-clause-some c = some_reading

pub returns-clause-apart : goal.returns-clause-apart
returns-clause-apart c = no_reading
