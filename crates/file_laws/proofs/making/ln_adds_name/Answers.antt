use Rattle.file_laws.proofs.Made.{linked}
use Rattle.file_laws.proofs.making.ln_adds_name.Goals as goal

pub returns : goal.returns
returns c = linked
