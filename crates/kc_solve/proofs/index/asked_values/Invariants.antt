use Rattle.std.proofs.Common.{◌≡◌, drop, map, length}
use Rattle.kc_equations.specs.Behind.{behind}
use Rattle.kc_solve.specs.Groups.{grouped, put_all}
use Rattle.kc_solve.specs.Index.{placed_wishes}
use Rattle.kc_solve.proofs.index.asked_values.Given as goal

-- those that are left are still to be put
abbrev pub invariant-loop-wish : goal.invariant-loop-wish
invariant-loop-wish l = put_all (map behind l.rows) (placed_wishes l.symbols (drop l.wish-index l.wishes)) ≡ grouped (length l.symbols) (placed_wishes l.symbols l.wishes)
