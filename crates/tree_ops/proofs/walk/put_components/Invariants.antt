use Rattle.std.proofs.Common.{◌≡◌, ◌++◌, map, filter, reverse, length}
use Rattle.tree_ops.specs.Walk.{components, is_filled}
use Rattle.tree_ops.proofs.walk.put_components.Given as goal

-- the parts that are left, and the steps
abbrev pub invariant-loop-part : goal.invariant-loop-part
invariant-loop-part l = filter is_filled (map (λ part. part.now) l.parts.items) ++ reverse l.steps.items ≡ components l.fn.text ++ reverse l.fn.steps.items

abbrev pub decreases-loop-part : goal.decreases-loop-part
decreases-loop-part l = length l.parts.items
