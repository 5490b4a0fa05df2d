use Rattle.std.proofs.Common.{ℕ, ◌≡◌, ◌≢◌, ◌++◌, drop, length}
use Rattle.cycle_walks.specs.Graph.{row}
use Rattle.selection.specs.Chains.{asked_places}
use Rattle.selection.proofs.chains.add_asked.Given as goal

-- those of the packages that are left are still to come
abbrev pub invariant-loop-place : goal.invariant-loop-place
invariant-loop-place l = record {
  nodes : length l.graph ≡ length l.fn.graph;
  here : row l.graph l.root ++ asked_places l.values l.place (drop l.place l.packages) ≡ asked_places l.values 0 l.packages;
  others : (node : ℕ) → node ≢ l.root → row l.graph node ≡ row l.fn.graph node;
}
