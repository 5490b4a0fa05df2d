use Rattle.std.proofs.Common.{◌≡◌, drop, length}
use Rattle.cycle_walks.specs.Reach.{shown, see_all}
use Rattle.cycle_walks.proofs.reach.Reach.see_all.Given as goal

abbrev pub invariant-loop-node : goal.invariant-loop-node
invariant-loop-node l = record {
  rest : see_all (shown l.self) (drop l.node-index l.row) ≡ see_all (shown l.fn.self) l.row;
  sized : length l.self.seen.items ≡ length l.fn.self.seen.items;
}
