-- Lines that take no root away.
use Rattle.std.specs.Prelude.{[], IsSome}
use Rattle.tree_ops.specs.Tree.{node_at}
use Rattle.tree_worlds.specs.World.{WorldData}

-- where the target tree has a root, it has one afterwards
abbrev pub KeepsRoot : WorldData → WorldData → Type 0
KeepsRoot old new = IsSome (node_at old.trees.target []) → IsSome (node_at new.trees.target [])
