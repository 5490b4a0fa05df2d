use Rattle.file_laws.proofs.Stays.{chmod-names}
use Rattle.file_laws.proofs.keeping.chmod_keeps_names.Goals as goal

pub returns : goal.returns
returns c = chmod-names
