use Rattle.std.proofs.Common.{◌≡◌, ◌++◌, map, filter, reverse, length}
use Rattle.tree_ops.specs.Walk.{components, is_filled}
use Rattle.sh_places.proofs.finding.components.Given as goal

-- the parts that are left, and the names
abbrev pub invariant-loop-part : goal.invariant-loop-part
invariant-loop-part l = filter is_filled (map (λ part. part.now) l.parts.items) ++ reverse l.names.items ≡ components l.fn.text

abbrev pub decreases-loop-part : goal.decreases-loop-part
decreases-loop-part l = length l.parts.items
