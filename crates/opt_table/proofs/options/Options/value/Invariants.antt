use Rattle.std.proofs.Common.{◌≡◌, length, reverse}
use Rattle.opt_table.specs.Given.{first_value, value_of}
use Rattle.opt_table.proofs.options.Options.value.Given as goal

abbrev pub invariant-loop-given : goal.invariant-loop-given
invariant-loop-given l = first_value (reverse l.rest) l.letter ≡ value_of l.self l.letter

abbrev pub decreases-loop-given : goal.decreases-loop-given
decreases-loop-given l = length l.rest
