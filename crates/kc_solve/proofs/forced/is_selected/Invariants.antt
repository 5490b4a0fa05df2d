use Rattle.std.proofs.Common.{◌≡◌, drop}
use Rattle.kc_equations.specs.Behind.{selects_behind}
use Rattle.kc_equations.specs.Equation.{is_selected}
use Rattle.kc_solve.proofs.forced.is_selected.Given as goal

-- the selects that are left decide
abbrev pub invariant-loop-entry : goal.invariant-loop-entry
invariant-loop-entry l = is_selected l.values (selects_behind (drop l.entry-index l.selects)) ≡ is_selected l.values (selects_behind l.selects)
