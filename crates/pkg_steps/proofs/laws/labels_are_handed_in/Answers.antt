use Rattle.pkg_steps.proofs.Drawn.{drawn_by_task}
use Rattle.pkg_steps.proofs.laws.labels_are_handed_in.Goals as goal

pub returns : goal.returns
returns c = drawn_by_task
