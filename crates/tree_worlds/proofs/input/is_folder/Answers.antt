use Rattle.tree_worlds.proofs.Naming.{folder-any}
use Rattle.tree_worlds.proofs.input.is_folder.Goals as goal

pub returns : goal.returns
returns c = folder-any c.args.files.now c.args.path.now c.is_dir.result c.is_dir.ensures
