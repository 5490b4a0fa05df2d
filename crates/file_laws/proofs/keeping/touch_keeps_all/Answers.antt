use Rattle.file_laws.proofs.Stays.{touch-all}
use Rattle.file_laws.proofs.keeping.touch_keeps_all.Goals as goal

pub returns : goal.returns
returns c = touch-all
