use Rattle.std.proofs.Common.{w64, arith}
use Rattle.std.proofs.lemmas.Nat.Bits.{bit_at-trailing_zeros}
use Rattle.ready_yard.proofs.task_set.lowest_bit.Goals as goal

pub returns-clause-inside : goal.returns-clause-inside
returns-clause-inside c = (bit_at-trailing_zeros w64 c.args.word (omega (arith, c.requires)) (omega (arith, c.well_formed))).0

pub returns-clause-here : goal.returns-clause-here
returns-clause-here c = (bit_at-trailing_zeros w64 c.args.word (omega (arith, c.requires)) (omega (arith, c.well_formed))).1

pub returns-clause-lowest : goal.returns-clause-lowest
returns-clause-lowest c = (bit_at-trailing_zeros w64 c.args.word (omega (arith, c.requires)) (omega (arith, c.well_formed))).2
