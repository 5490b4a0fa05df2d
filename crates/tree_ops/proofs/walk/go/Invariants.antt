use Rattle.std.proofs.Common.{◌≡◌, All, reverse, length}
use Rattle.tree_ops.specs.Walk.{Onward, walk_on}
use Rattle.tree_ops.specs.Walking.{IsStep}
use Rattle.tree_ops.proofs.walk.go.Given as goal

-- the walk that is left leads to where the whole leads
abbrev pub invariant-loop-name : goal.invariant-loop-name
invariant-loop-name g l = record {
  walk : (onward : Onward) → walk_on onward (g.T.Walked.walked l.tree) l.follow (reverse l.steps.items) l.place ≡ walk_on onward (g.T.Walked.walked l.tree) l.follow (reverse l.fn.steps.items) l.fn.from;
  steps : All IsStep (reverse l.steps.items);
}

abbrev pub decreases-loop-name : goal.decreases-loop-name
decreases-loop-name g l = length l.steps.items
