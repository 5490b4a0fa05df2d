use Rattle.std.proofs.Common.{◌≡◌, drop}
use Rattle.kc_equations.specs.Behind.{behind}
use Rattle.kc_equations.specs.Faults.{depends_hold}
use Rattle.kc_solve.proofs.forced.depends_hold.Given as goal

-- the entries that are left decide
abbrev pub invariant-loop-entry : goal.invariant-loop-entry
invariant-loop-entry l = depends_hold l.values (behind (drop l.entry-index l.own)) ≡ depends_hold l.values (behind l.own)
