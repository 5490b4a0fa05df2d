-- What each step asks of a world, and leaves.
use Rattle.std.specs.Prelude.{◌≡◌, ℕ, ◌+◌, All, Bool, Result, Ok, Err}
use Rattle.std.specs.FinMap as fin
use Rattle.tree_ops.specs.declared.entry.Label.{Label}
use Rattle.tree_ops.specs.declared.change.ChangeFault.{ChangeFault}
use Rattle.tree_ops.specs.declared.change.ChangeFault.TheVariants.{Memory}
use Rattle.br_path.specs.declared.area.Area.{Area}
use Rattle.tree_ops.specs.Tree.{Tree, IsTree}
use Rattle.tree_ops.specs.Change.{State, text_bytes}
use Rattle.tree_ops.specs.Pen.{counts_of}
use Rattle.tree_ops.specs.Held.{IsHeld, IsSealed}
use Rattle.tree_worlds.specs.declared.world.World.{World}
use Rattle.tree_worlds.specs.declared.world.ShownTree.{ShownTree}
use Rattle.tree_worlds.specs.declared.reason.CommandError.{CommandError}
use Rattle.tree_worlds.specs.declared.reason.CommandError.TheVariants.{Failed, Memory as no_memory}
use Rattle.tree_worlds.specs.declared.reason.Reason.TheVariants.{Change as for_change}
use Rattle.tree_worlds.specs.World.{AreaTrees, WorldData, with_state, trees_data, world_data}

-- a readable build tree is a tree, with all its labels sealed
pub record IsReadable {T : Type 0} (tree : T → Tree) (sealed : T → Label → Bool) (shown : ShownTree T) : Type 0 where
  pub sound : IsTree (tree shown.tree)
  pub whole : IsSealed (tree shown.tree) (sealed shown.tree)

-- the names that stand in the four trees together, and the bytes of their paths' texts
abbrev pub names_in : AreaTrees → ℕ
names_in trees = fin.len trees.build.names + fin.len trees.host.names + fin.len trees.staging.names + fin.len trees.target.names

abbrev pub texts_in : AreaTrees → ℕ
texts_in trees = text_bytes trees.build + text_bytes trees.host + text_bytes trees.staging + text_bytes trees.target

-- each of its trees is held by its pen, which counts the names and texts of all four, roots left out; and what it may read is readable
pub record IsHeldWorld {T : Type 0} (tree : T → Tree) (sealed : T → Label → Bool) (world : World T) : Type 0 where
  pub build : IsHeld (tree world.trees.build) (sealed world.trees.build) (counts_of world.pen)
  pub host : IsHeld (tree world.trees.host) (sealed world.trees.host) (counts_of world.pen)
  pub staging : IsHeld (tree world.trees.staging) (sealed world.trees.staging) (counts_of world.pen)
  pub target : IsHeld (tree world.trees.target) (sealed world.trees.target) (counts_of world.pen)
  pub shown : All (IsReadable tree sealed) world.shown
  pub names : names_in (trees_data tree world.trees) ≡ world.pen.names + 4
  pub path_bytes : texts_in (trees_data tree world.trees) ≡ world.pen.path_bytes

-- a world is as it was, with all of its pen
pub record IsAsBefore {T : Type 0} (tree : T → Tree) (old new : World T) : Type 0 where
  pub same : world_data tree new ≡ world_data tree old
  pub pen : new.pen ≡ old.pen

-- what a change of one area's tree answers and leaves
abbrev pub IsPut : Result State ChangeFault → Area → WorldData → Result (Unit {0}) ChangeFault → WorldData → Type 0
IsPut outcome area old (Ok done) new = (state : State) × (outcome ≡ Ok state) × (new ≡ with_state old area state)
IsPut outcome area old (Err Memory) new = new ≡ old
IsPut outcome area old (Err fault) new = (outcome ≡ Err fault) × (new ≡ old)

-- what a command answers for a refused change
abbrev pub error_of : ChangeFault → CommandError
error_of Memory = no_memory
error_of fault = Failed (for_change fault)
