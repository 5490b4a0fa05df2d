use Rattle.std.proofs.Common.{◌≡◌, ◌-◌, All, reverse}
use Rattle.tree_ops.specs.Walk.{resolved}
use Rattle.tree_ops.specs.Walking.{IsStep, walk_within}
use Rattle.tree_ops.proofs.walk.resolve.Given as goal

-- the walk that is left, with the links that are left, leads to where the whole leads
abbrev pub invariant-loop-links : goal.invariant-loop-links
invariant-loop-links g l = record {
  walk : walk_within (41 - l.links) (g.T.Walked.walked l.tree) l.follow l.place (reverse l.steps.items) ≡ resolved (g.T.Walked.walked l.tree) l.walk l.follow;
  steps : All IsStep (reverse l.steps.items);
}
