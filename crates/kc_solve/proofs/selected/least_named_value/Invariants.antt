use Rattle.std.proofs.Common.{◌≡◌, drop, find}
use Rattle.kc_equations.specs.Faults.{is_named_value}
use Rattle.kc_solve.proofs.selected.least_named_value.Given as goal

-- the first is among those that are left
abbrev pub invariant-loop-place : goal.invariant-loop-place
invariant-loop-place l = find (is_named_value l.index.menu.now.entries) (drop l.place l.index.symbols) ≡ find (is_named_value l.index.menu.now.entries) l.index.symbols
