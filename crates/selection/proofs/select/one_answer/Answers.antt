use Rattle.selection.proofs.OneLaws.{one_selecting}
use Rattle.selection.proofs.select.one_answer.Goals as goal

pub returns : goal.returns
returns c files values recipes one other has had = one_selecting files values recipes one other has had
