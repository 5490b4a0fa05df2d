use Rattle.std.proofs.Common.{refl, length}
use Rattle.std.proofs.Math.Nat.{le_refl}
use Rattle.mk_expand.proofs.Commas.{arguments, next_comma}
use Rattle.mk_expand.proofs.call.arguments_divide.Goals as goal

pub returns : goal.returns
returns c kind most text = arguments kind most (length text) 0 text (le_refl (length text)) (next_comma kind most 0 text) refl
