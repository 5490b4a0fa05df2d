use Rattle.std.proofs.Common.{ℕ, ◌≡◌, ◌≢◌, ◌++◌, drop, length}
use Rattle.cycle_walks.specs.Graph.{row}
use Rattle.kc_equations.specs.Behind.{behind}
use Rattle.kc_solve.specs.Named.{places_in}
use Rattle.kc_solve.proofs.naming.add_names.Given as goal

-- the places of the words that are left are still to come
abbrev pub invariant-loop-word : goal.invariant-loop-word
invariant-loop-word l = record {
  nodes : length l.graph ≡ length l.fn.graph;
  here : row l.graph l.place ++ places_in l.index.symbols (behind (drop l.word-index l.words)) ≡ row l.fn.graph l.place ++ places_in l.index.symbols (behind l.words);
  others : (s : ℕ) → s ≢ l.place → row l.graph s ≡ row l.fn.graph s;
}
