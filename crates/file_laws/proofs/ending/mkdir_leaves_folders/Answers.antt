use Rattle.file_laws.proofs.Fronts.{leaves-folders}
use Rattle.file_laws.proofs.ending.mkdir_leaves_folders.Goals as goal

pub returns : goal.returns
returns c = leaves-folders
