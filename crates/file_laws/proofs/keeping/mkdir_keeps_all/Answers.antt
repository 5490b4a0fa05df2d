use Rattle.file_laws.proofs.Stays.{mkdir-all}
use Rattle.file_laws.proofs.keeping.mkdir_keeps_all.Goals as goal

pub returns : goal.returns
returns c = mkdir-all
