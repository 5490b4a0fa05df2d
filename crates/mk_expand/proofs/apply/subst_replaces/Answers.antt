use Rattle.std.proofs.Common.{length}
use Rattle.std.proofs.Math.Nat.{le_refl}
use Rattle.mk_expand.proofs.Replacing.{replaced_law}
use Rattle.mk_expand.proofs.apply.subst_replaces.Goals as goal

pub returns : goal.returns
returns c from to text filled = replaced_law from to filled (length text) text (le_refl (length text))
