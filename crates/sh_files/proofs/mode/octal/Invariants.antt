use Rattle.std.proofs.Common.{◌≡◌, ◌<◌, drop}
use Rattle.sh_files.specs.Modes.{octal_from}
use Rattle.sh_files.proofs.Modes.{limit}
use Rattle.sh_files.proofs.mode.octal.Given as goal

-- the number so far, and what so many digits can't write
abbrev pub invariant-loop-digit : goal.invariant-loop-digit
invariant-loop-digit l = record { value : octal_from l.value (drop l.digit-index l.digits) ≡ octal_from 0 l.digits; within : l.value < limit l.digit-index }
