use Rattle.file_laws.proofs.Cleared.{cleared}
use Rattle.file_laws.proofs.ending.rm_is_whole.Goals as goal

pub returns : goal.returns
returns c = cleared
