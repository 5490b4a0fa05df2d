use Rattle.cycle_walks.specs.Reach.{shown}
use Rattle.cycle_walks.proofs.Sights.{left, IsSight}
use Rattle.cycle_walks.proofs.reach.seen_from.Given as goal

abbrev pub invariant-loop-next : goal.invariant-loop-next
invariant-loop-next l = IsSight l.graph l.node (shown l.reach)

abbrev pub decreases-loop-next : goal.decreases-loop-next
decreases-loop-next l = left (shown l.reach)
