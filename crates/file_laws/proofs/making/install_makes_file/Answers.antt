use Rattle.file_laws.proofs.Made.{installed}
use Rattle.file_laws.proofs.making.install_makes_file.Goals as goal

pub returns : goal.returns
returns c = installed
