use Rattle.std.proofs.Common.{◌≡◌, drop, find}
use Rattle.kc_equations.specs.Faults.{is_bad_number}
use Rattle.kc_solve.proofs.number.least_bad_number.Given as goal

-- the first is among those that are left
abbrev pub invariant-loop-place : goal.invariant-loop-place
invariant-loop-place l = find (is_bad_number l.values) (drop l.place l.index.symbols) ≡ find (is_bad_number l.values) l.index.symbols
