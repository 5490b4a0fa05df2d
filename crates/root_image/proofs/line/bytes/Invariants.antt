use Rattle.std.proofs.Common.{◌≡◌, ◌++◌, length}
use Rattle.std.specs.Option.{option_map}
use Rattle.root_image.specs.Words.{bytes_of}
use Rattle.root_image.proofs.line.bytes.Given as goal

-- the bytes so far and those of the digits that are left are the bytes of all
abbrev pub invariant-loop-high : goal.invariant-loop-high
invariant-loop-high l = option_map (λ tail. l.bytes.items ++ tail) (bytes_of l.rest) ≡ bytes_of l.digits

abbrev pub decreases-loop-high : goal.decreases-loop-high
decreases-loop-high l = length l.rest
