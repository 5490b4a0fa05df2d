use Rattle.std.proofs.Common.{◌≡◌, drop, map, length}
use Rattle.kc_equations.specs.Behind.{selects_behind}
use Rattle.kc_solve.specs.Groups.{grouped, put_all}
use Rattle.kc_solve.specs.Index.{placed_selects}
use Rattle.kc_solve.proofs.index.named_selects.Given as goal

-- those that are left are still to be put
abbrev pub invariant-loop-entry : goal.invariant-loop-entry
invariant-loop-entry l = put_all (map selects_behind l.rows) (placed_selects l.symbols (drop l.entry-index l.entries)) ≡ grouped (length l.symbols) (placed_selects l.symbols l.entries)
