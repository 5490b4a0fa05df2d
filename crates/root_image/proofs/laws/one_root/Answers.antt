use Rattle.root_image.proofs.Readable.{one_root}
use Rattle.root_image.proofs.laws.one_root.Goals as goal

pub returns : goal.returns
returns g = one_root
