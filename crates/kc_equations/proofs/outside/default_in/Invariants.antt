use Rattle.std.proofs.Common.{◌≡◌, drop, find}
use Rattle.kc_equations.specs.Equation.{counts}
use Rattle.kc_equations.proofs.outside.default_in.Given as goal

-- the first is among those that are left
abbrev pub invariant-loop-default : goal.invariant-loop-default
invariant-loop-default l = find (λ d. counts l.values l.entry d.condition) (drop l.default-index l.default-items) ≡ find (λ d. counts l.values l.entry d.condition) l.default-items
