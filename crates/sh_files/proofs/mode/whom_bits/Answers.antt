use Rattle.sh_files.specs.Modes.{bits_from, whom_bits}
use Rattle.sh_files.proofs.Modes.{bits-on, bits-within}
use Rattle.sh_files.proofs.mode.whom_bits.Goals as goal

pub loop-letter-preserved : goal.loop-letter-preserved
loop-letter-preserved c = record {
  bits = bits-on whom_bits c.args.letters.now c.loop-letter.letter-index c.loop-letter.bits c.whom_bits_of-bits.result (bits_from whom_bits 0 c.args.letters.now) c.loop-letter-test.true c.whom_bits_of-bits.ensures.bits c.loop-letter.invariant.bits;
  within = bits-within c.loop-letter.bits c.whom_bits_of-bits.result c.loop-letter.invariant.within c.whom_bits_of-bits.ensures.limit;
}
