use Rattle.sh_text.proofs.FormatLaws.{formats_read, format_written}
use Rattle.sh_text.proofs.laws.formats_are_read.Goals as goal

pub returns : goal.returns
returns c = λ text parts. (formats_read text parts, format_written text parts)
