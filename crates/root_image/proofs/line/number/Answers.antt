use Rattle.std.proofs.Common.{◌+◌, min, ap, ◌∙◌, arith}
use Rattle.root_image.specs.Reader.{most}
use Rattle.root_image.proofs.Sized.{digit-turn}
use Rattle.root_image.proofs.line.number.Goals as goal

pub loop-digit-preserved : goal.loop-digit-preserved
loop-digit-preserved c =
    digit-turn c.args.digits.now c.loop-digit.digit-index c.loop-digit.number c.saturating_mul.result c.saturating_add-number.result (omega arith) c.loop-digit.invariant c.saturating_mul.ensures
    (c.saturating_add-number.ensures ∙ ap (λ d. min (c.saturating_mul.result + d) most) (c.from.ensures ∙ c.saturating_sub.ensures))
