use Rattle.file_laws.proofs.Made.{copied}
use Rattle.file_laws.proofs.making.cp_makes_file.Goals as goal

pub returns : goal.returns
returns c = copied
