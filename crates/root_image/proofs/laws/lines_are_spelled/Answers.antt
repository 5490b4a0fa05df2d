use Rattle.std.proofs.Common.{◌≡◌, Some, sym, subst}
use Rattle.root_image.specs.Reading.{line_in}
use Rattle.root_image.proofs.Spelled.{line-said, line-read}
use Rattle.root_image.proofs.laws.lines_are_spelled.Goals as goal

pub returns : goal.returns
returns g = λ place text line few. (line-said place text line few, λ said. subst (λ t. line_in place t ≡ Some line) (sym said.2) (line-read place line said.0 said.1 few))
