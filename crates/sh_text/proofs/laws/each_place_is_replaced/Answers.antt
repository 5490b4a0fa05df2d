use Rattle.sh_text.proofs.Edits.{edited_each, edited_nowhere}
use Rattle.sh_text.proofs.laws.each_place_is_replaced.Goals as goal

pub returns-clause-each : goal.returns-clause-each
returns-clause-each c = λ script beginning rest place each first. edited_each script place beginning rest each first

pub returns-clause-end : goal.returns-clause-end
returns-clause-end c = λ script beginning rest never. edited_nowhere script beginning rest never
