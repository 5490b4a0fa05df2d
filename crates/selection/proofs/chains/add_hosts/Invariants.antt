use Rattle.std.proofs.Common.{ℕ, ◌≡◌, ◌≢◌, ◌++◌, drop, length}
use Rattle.cycle_walks.specs.Graph.{row}
use Rattle.selection.specs.Chains.{host_places}
use Rattle.selection.proofs.chains.add_hosts.Given as goal

-- the places of the names that are left are still to come
abbrev pub invariant-loop-name : goal.invariant-loop-name
invariant-loop-name l = record {
  nodes : length l.graph ≡ length l.fn.graph;
  here : row l.graph l.node ++ host_places l.packages (drop l.name-index l.names) ≡ row l.fn.graph l.node ++ host_places l.packages l.names;
  others : (other : ℕ) → other ≢ l.node → row l.graph other ≡ row l.fn.graph other;
}
