use Rattle.std.proofs.Common.{◌≡◌, length}
use Rattle.opt_table.specs.Reading.{grown, group_of}
use Rattle.opt_table.proofs.options.Options.take_group.Given as goal

abbrev pub invariant-loop-letter : goal.invariant-loop-letter
invariant-loop-letter l = grown l.self (group_of l.rows l.place l.rest) ≡ grown l.fn.self (group_of l.rows l.place l.letters)

abbrev pub decreases-loop-letter : goal.decreases-loop-letter
decreases-loop-letter l = length l.rest
