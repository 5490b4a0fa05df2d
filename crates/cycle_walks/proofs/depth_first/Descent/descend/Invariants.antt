use Rattle.std.proofs.Common.{◌≡◌}
use Rattle.cycle_walks.specs.declared.depth_first.Mark.TheVariants.{Unmet}
use Rattle.cycle_walks.specs.Descent.{shown, mark_at, left, IsDescent, KeepsMet}
use Rattle.cycle_walks.proofs.depth_first.Descent.descend.Given as goal

abbrev pub invariant-loop-top : goal.invariant-loop-top
invariant-loop-top l = record {
  descent : IsDescent l.graph (shown l.self);
  kept : KeepsMet l.fn.self.marks.items l.self.marks.items;
  met : mark_at l.self.marks.items l.fn.node ≡ Unmet → ⊥;
}

abbrev pub decreases-loop-top : goal.decreases-loop-top
decreases-loop-top l = left l.graph l.self.marks.items
