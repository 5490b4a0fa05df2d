use Rattle.std.proofs.Common.{true}
use Rattle.sh_text.proofs.Edits.{edited_once}
use Rattle.sh_text.proofs.laws.first_place_is_replaced.Goals as goal

pub returns : goal.returns
returns c = λ script line place once first. edited_once script place true line once first
