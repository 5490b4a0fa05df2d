use Rattle.kc_solve.proofs.FillSteps.{IsFilledTo}
use Rattle.kc_solve.proofs.Kept.{IsKept}
use Rattle.kc_solve.proofs.fill.fill.Given as goal

-- the first symbols of the order have their values, and what is known of choices stays
abbrev pub invariant-loop-place : goal.invariant-loop-place
invariant-loop-place l = IsFilledTo l.index.menu.now l.index.wishes.now l.index.symbols l.place-items l.place-index l.values × IsKept l.index.menu.now l.index.wishes.now l.values l.chosen
