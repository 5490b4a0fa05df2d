use Rattle.std.proofs.Common.{ℕ, ◌≡◌, ◌<◌, []}
use Rattle.cycle_walks.specs.declared.depth_first.Mark.TheVariants.{Unmet}
use Rattle.cycle_walks.specs.Descent.{shown, mark_at, IsDescent}
use Rattle.cycle_walks.proofs.depth_first.order.Given as goal

abbrev pub invariant-loop-node : goal.invariant-loop-node
invariant-loop-node l = record {
  descent : IsDescent l.graph (shown l.descent);
  shut : (shown l.descent).path ≡ [];
  met : (node : ℕ) → node < l.node → mark_at l.descent.marks.items node ≡ Unmet → ⊥;
}
