use Rattle.std.proofs.Common.{◌≡◌, [], ◌∷◌, drop, map}
use Rattle.kc_equations.specs.Behind.{selects_behind}
use Rattle.kc_solve.specs.Groups.{put_all}
use Rattle.kc_solve.specs.Index.{placed_selects}
use Rattle.kc_solve.specs.Symbols.{place_of}
use Rattle.kc_solve.proofs.index.put_selects.Given as goal

-- those that are left are still to be put
abbrev pub invariant-loop-select : goal.invariant-loop-select
invariant-loop-select l = put_all (map selects_behind l.rows) (map (λ s. (place_of l.symbols s.symbol, (l.entry, s))) (drop l.select-index l.select-items)) ≡ put_all (map selects_behind l.fn.rows) (placed_selects l.symbols (l.entry ∷ []))
