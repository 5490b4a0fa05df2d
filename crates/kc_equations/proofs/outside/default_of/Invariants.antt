use Rattle.std.proofs.Common.{◌≡◌, drop}
use Rattle.kc_equations.specs.Behind.{behind}
use Rattle.kc_equations.specs.Equation.{default_of}
use Rattle.kc_equations.proofs.outside.default_of.Given as goal

-- the first is in the entries that are left
abbrev pub invariant-loop-entry : goal.invariant-loop-entry
invariant-loop-entry l = default_of l.values (behind (drop l.entry-index l.own)) ≡ default_of l.values (behind l.own)
