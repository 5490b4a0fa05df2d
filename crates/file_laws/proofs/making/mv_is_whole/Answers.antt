use Rattle.file_laws.proofs.Made.{moved}
use Rattle.file_laws.proofs.making.mv_is_whole.Goals as goal

pub returns : goal.returns
returns c = moved
