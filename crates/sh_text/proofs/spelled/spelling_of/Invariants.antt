use Rattle.std.proofs.Common.{◌≡◌, ◌++◌, length}
use Rattle.std.specs.Option.{option_map}
use Rattle.sh_text.specs.Scripts.{spelling_of}
use Rattle.sh_text.proofs.spelled.spelling_of.Given as goal

abbrev pub invariant-loop-first : goal.invariant-loop-first
invariant-loop-first l = spelling_of l.text ≡ option_map (λ more. l.bytes.items ++ more) (spelling_of l.rest)

abbrev pub decreases-loop-first : goal.decreases-loop-first
decreases-loop-first l = length l.rest
