use Rattle.std.proofs.Common.{◌≡◌, drop}
use Rattle.tree_worlds.specs.Naming.{tree_of}
use Rattle.tree_worlds.proofs.world.Shown.tree_of.Given as goal

-- the tree is among those that are left
abbrev pub invariant-loop-shown : goal.invariant-loop-shown
invariant-loop-shown g l = tree_of (drop l.shown-index l.shown-items) l.task ≡ tree_of l.shown-items l.task
