-- The numbers of statuses.
use Rattle.std.specs.Prelude.{ℕ}
use Rattle.br_run.specs.declared.status.Status.{Status}
use Rattle.br_run.specs.declared.status.Status.TheVariants.{Done, PackagesFailed, Overwrites, BadInput, NoMemory, FeedFault, SinkFault, BadWords}

abbrev pub number_of : Status → ℕ
number_of Done = 0
number_of PackagesFailed = 1
number_of Overwrites = 2
number_of BadInput = 3
number_of NoMemory = 4
number_of FeedFault = 5
number_of SinkFault = 6
number_of BadWords = 7
