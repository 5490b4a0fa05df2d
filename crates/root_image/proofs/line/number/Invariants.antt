use Rattle.std.proofs.Common.{◌≡◌, ◌-◌, ◌^◌, min, take}
use Rattle.root_image.specs.Words.{number_on}
use Rattle.root_image.proofs.line.number.Given as goal

-- the number is what the digits so far write, or the greatest
abbrev pub invariant-loop-digit : goal.invariant-loop-digit
invariant-loop-digit l = l.number ≡ min (number_on 0 (take l.digit-index l.digits)) (2 ^ 64 - 1)
