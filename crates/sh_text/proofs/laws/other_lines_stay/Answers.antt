use Rattle.std.proofs.Common.{true}
use Rattle.sh_text.proofs.Edits.{edited_nowhere}
use Rattle.sh_text.proofs.laws.other_lines_stay.Goals as goal

pub returns : goal.returns
returns c = λ script line never. edited_nowhere script true line never
