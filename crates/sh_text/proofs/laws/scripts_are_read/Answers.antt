use Rattle.sh_text.proofs.ScriptLaws.{scripts_read, scripts_written}
use Rattle.sh_text.proofs.laws.scripts_are_read.Goals as goal

pub returns : goal.returns
returns c = λ text script. (scripts_read text script, scripts_written text script)
