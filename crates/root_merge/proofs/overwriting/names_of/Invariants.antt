use Rattle.std.proofs.Common.{◌≡◌, map, take}
use Rattle.root_merge.specs.Found.{owner_of}
use Rattle.root_merge.proofs.overwriting.names_of.Given as goal

-- the names of the makes so far
abbrev pub invariant-loop-make : goal.invariant-loop-make
invariant-loop-make l = l.items.items ≡ map (owner_of l.plan) (take l.make-index l.makes)
