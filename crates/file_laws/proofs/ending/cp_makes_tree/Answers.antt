use Rattle.file_laws.proofs.Copied.{cp_tree}
use Rattle.file_laws.proofs.ending.cp_makes_tree.Goals as goal

pub returns : goal.returns
returns c = cp_tree
