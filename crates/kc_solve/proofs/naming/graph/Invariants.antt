use Rattle.std.proofs.Common.{ℕ, ◌≡◌, ◌<◌, ◌≤◌, [], length}
use Rattle.cycle_walks.specs.Graph.{row}
use Rattle.kc_solve.specs.Named.{places_in, words_at}
use Rattle.kc_solve.specs.Symbols.{symbol_at}
use Rattle.kc_solve.proofs.naming.graph.Given as goal

-- the first rows are made, and the others are empty
abbrev pub invariant-loop-place : goal.invariant-loop-place
invariant-loop-place l = record {
  nodes : length l.graph ≡ length l.index.symbols;
  made : (s : ℕ) → s < l.place → row l.graph s ≡ places_in l.index.symbols (words_at l.index.menu.now (symbol_at l.index.symbols s));
  empty : (s : ℕ) → l.place ≤ s → row l.graph s ≡ [];
}
