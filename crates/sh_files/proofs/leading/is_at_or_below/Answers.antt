use Rattle.std.proofs.Common.{◌∙◌}
use Rattle.tree_worlds.proofs.Naming.{at_or_below-starts}
use Rattle.sh_files.proofs.leading.is_at_or_below.Goals as goal

pub returns : goal.returns
returns c = c.starts_with.ensures.value ∙ at_or_below-starts c.args.head.now c.args.names.now
