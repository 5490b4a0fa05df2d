use Rattle.std.proofs.Common.{◌≡◌, ◌++◌, drop, filter}
use Rattle.kc_equations.specs.Faults.{is_forced}
use Rattle.kc_solve.proofs.forced.forced.Given as goal

-- those among the symbols that are left are still to come
abbrev pub invariant-loop-place : goal.invariant-loop-place
invariant-loop-place l = l.items.items ++ filter (is_forced l.index.menu.now l.values) (drop l.place l.index.symbols) ≡ filter (is_forced l.index.menu.now l.values) l.index.symbols
