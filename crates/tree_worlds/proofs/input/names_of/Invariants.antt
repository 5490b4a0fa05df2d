use Rattle.std.proofs.Common.{◌≡◌, ◌++◌, map, filter, reverse, length}
use Rattle.tree_worlds.specs.Operand.{names_of, is_counted}
use Rattle.tree_worlds.proofs.input.names_of.Given as goal

-- the parts that are left, and the names
abbrev pub invariant-loop-part : goal.invariant-loop-part
invariant-loop-part l = filter is_counted (map (λ part. part.now) l.parts.items) ++ reverse l.names.items ≡ names_of l.fn.word

abbrev pub decreases-loop-part : goal.decreases-loop-part
decreases-loop-part l = length l.parts.items
