use Rattle.feed_io.proofs.OneReading.{faultless_none, first_same}
use Rattle.feed_io.proofs.read.one_reading.Goals as goal

pub returns-clause-faultless : goal.returns-clause-faultless
returns-clause-faultless c = faultless_none

pub returns-clause-one : goal.returns-clause-one
returns-clause-one c = first_same
