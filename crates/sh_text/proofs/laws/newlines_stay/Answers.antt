use Rattle.sh_text.proofs.Newlines.{newlines_kept}
use Rattle.sh_text.proofs.laws.newlines_stay.Goals as goal

pub returns : goal.returns
returns c = newlines_kept
