use Rattle.kc_expr.proofs.Complete.{condition_reads}
use Rattle.kc_expr.proofs.Sound.{condition_sound}
use Rattle.kc_expr.proofs.read.conditions_are_read.Goals as goal

pub returns-clause-sound : goal.returns-clause-sound
returns-clause-sound c parts rest expr = condition_sound parts rest expr

pub returns-clause-read : goal.returns-clause-read
returns-clause-read c expr text rest = condition_reads expr text rest
