use Rattle.file_laws.proofs.Edited.{edited-file}
use Rattle.file_laws.proofs.making.sed_makes_file.Goals as goal

pub returns : goal.returns
returns c = edited-file
