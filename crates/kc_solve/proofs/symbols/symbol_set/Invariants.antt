use Rattle.std.proofs.Common.{◌≡◌, [], map, fold, drop}
use Rattle.kc_equations.specs.Solution.{put_symbol}
use Rattle.kc_solve.proofs.symbols.symbol_set.Given as goal

-- the entries that are left give the rest of the symbols
abbrev pub invariant-loop-entry : goal.invariant-loop-entry
invariant-loop-entry l = fold (λ symbols e. put_symbol symbols e.symbol) (map (λ k. k.items) l.set.keys) (drop l.entry-index l.entries) ≡ fold (λ symbols e. put_symbol symbols e.symbol) [] l.entries
