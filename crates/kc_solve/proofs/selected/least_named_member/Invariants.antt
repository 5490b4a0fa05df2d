use Rattle.std.proofs.Common.{◌≡◌, drop, find}
use Rattle.kc_equations.specs.Faults.{is_named_member}
use Rattle.kc_solve.proofs.selected.least_named_member.Given as goal

-- the first is among those that are left
abbrev pub invariant-loop-place : goal.invariant-loop-place
invariant-loop-place l = find (is_named_member l.index.menu.now.entries) (drop l.place l.index.symbols) ≡ find (is_named_member l.index.menu.now.entries) l.index.symbols
