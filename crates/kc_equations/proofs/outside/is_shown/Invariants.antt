use Rattle.std.proofs.Common.{◌≡◌, drop}
use Rattle.kc_equations.specs.Behind.{behind}
use Rattle.kc_equations.specs.Equation.{is_shown}
use Rattle.kc_equations.proofs.outside.is_shown.Given as goal

-- the entries that are left decide
abbrev pub invariant-loop-entry : goal.invariant-loop-entry
invariant-loop-entry l = is_shown l.values (behind (drop l.entry-index l.own)) ≡ is_shown l.values (behind l.own)
