use Rattle.std.proofs.Common.{◌≡◌, ◌≤◌, drop}
use Rattle.sh_files.specs.Modes.{bits_from, what_bits}
use Rattle.sh_files.proofs.mode.what_bits.Given as goal

-- the bits so far
abbrev pub invariant-loop-letter : goal.invariant-loop-letter
invariant-loop-letter l = record { bits : bits_from what_bits l.bits (drop l.letter-index l.letters) ≡ bits_from what_bits 0 l.letters; within : l.bits ≤ 511 }
