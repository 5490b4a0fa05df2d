use Rattle.std.proofs.Common.{ℕ, ◌≡◌, ◌<◌, ◌≤◌, [], Some, length, slice_get}
use Rattle.cycle_walks.specs.Graph.{row}
use Rattle.selection.specs.declared.listed.Listed.{Listed}
use Rattle.selection.specs.Chains.{host_places}
use Rattle.selection.specs.Selected.{listed_by}
use Rattle.selection.proofs.chains.add_lists.Given as goal

-- the rows of the first packages are made, and those of the others are empty
abbrev pub invariant-loop-place : goal.invariant-loop-place
invariant-loop-place l = record {
  nodes : length l.graph ≡ length l.fn.graph;
  root : row l.graph (length l.packages) ≡ row l.fn.graph (length l.packages);
  done : (q : ℕ) (item : Listed) → q < l.place → slice_get l.all q ≡ Some item → row l.graph q ≡ host_places l.packages (listed_by item);
  empty : (q : ℕ) → l.place ≤ q → q < length l.packages → row l.graph q ≡ [];
}
