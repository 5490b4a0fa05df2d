use Rattle.std.proofs.Common.{◌-◌, length}
use Rattle.br_path.specs.Path.{rooted_text}
use Rattle.tree_map.proofs.Greatest.{IsReach}
use Rattle.tree_map.proofs.paths.last_below.Given as goal

abbrev pub invariant-loop-alloc : goal.invariant-loop-alloc
invariant-loop-alloc l = IsReach l.head l.last

-- the bytes that the path may still have
abbrev pub decreases-loop-alloc : goal.decreases-loop-alloc
decreases-loop-alloc l = 1026 - length (rooted_text l.last)
