use Rattle.std.proofs.Common.{◌≡◌, ◌++◌, length}
use Rattle.std.specs.Option.{option_map}
use Rattle.sh_text.specs.Formats.{format_of}
use Rattle.sh_text.proofs.format.Format.read.Given as goal

abbrev pub invariant-loop-byte : goal.invariant-loop-byte
invariant-loop-byte l = format_of l.text ≡ option_map (λ more. l.parts.items ++ more) (format_of l.rest)

abbrev pub decreases-loop-byte : goal.decreases-loop-byte
decreases-loop-byte l = length l.rest
