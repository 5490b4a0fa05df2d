use Rattle.std.proofs.Common.{◌≡◌, take}
use Rattle.tree_worlds.proofs.input.path_of.Given as goal

-- the path so far has the front of the names
abbrev pub invariant-loop-name : goal.invariant-loop-name
invariant-loop-name l = l.path ≡ take l.name-index l.names
