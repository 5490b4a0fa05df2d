use Rattle.std.proofs.Common.{◌≡◌, false, inr, sym}
use Rattle.kc_equations.specs.Behind.{behind}
use Rattle.kc_equations.specs.Choices.{has_visible}
use Rattle.kc_equations.proofs.ChoiceLaws.{taken_none}
use Rattle.kc_equations.proofs.choice.taken.Goals as goal

pub returns-then-not-has_visible : goal.returns-then-not-has_visible
returns-then-not-has_visible c =
    let none : has_visible c.args.values.now (behind c.args.members.now) ≡ false = cc in
    sym (taken_none c.args.values.now (behind c.args.members.now) c.args.wishes.now c.args.choice.now (inr none))
