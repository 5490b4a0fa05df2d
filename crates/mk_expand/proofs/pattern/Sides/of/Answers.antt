use Rattle.std.proofs.Common.{sym, ◌∙◌}
use Rattle.mk_expand.proofs.Fits.{fit_divided, filled_divided}
use Rattle.mk_expand.proofs.pattern.Sides.of.Goals as goal

pub returns-in-Some-clause-fits : goal.returns-in-Some-clause-fits
returns-in-Some-clause-fits c = λ word.
    fit_divided _ word _ _ _ c.in-Some.place (sym c.first_percent.ensures.place ∙ c.in-Some.is) c.split_at.ensures.front c.split_at.ensures.back c.split_at-in-Some.ensures.back

pub returns-in-Some-clause-fills : goal.returns-in-Some-clause-fills
returns-in-Some-clause-fills c = λ stem.
    filled_divided _ stem _ _ _ c.in-Some.place (sym c.first_percent.ensures.place ∙ c.in-Some.is) c.split_at.ensures.front c.split_at.ensures.back c.split_at-in-Some.ensures.back
