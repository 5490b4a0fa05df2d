-- What holds of the tasks of a case.
use Rattle.std.specs.Prelude.{◌≡◌, ◌+◌, ◌<◌, ℕ, Bool, true, List, All}
use Rattle.std.specs.FinMap as fin
use Rattle.br_path.specs.declared.area.Area.{Area}
use Rattle.tree_ops.specs.declared.entry.Label.{Label}
use Rattle.tree_ops.specs.Tree.{Tree, IsTree}
use Rattle.tree_ops.specs.Held.{IsSealed}
use Rattle.tree_worlds.specs.declared.world.Trees.{Trees}
use Rattle.tree_worlds.specs.declared.world.World.{World}
use Rattle.tree_worlds.specs.World.{AreaTrees, tree_in, trees_data}
use Rattle.tree_worlds.specs.HeldWorld.{IsHeldWorld}

-- all labels of the tree are of tasks below a number
abbrev pub AreBelow : ℕ → Tree → Type 0
AreBelow limit tree = (label : Label) → fin.contains_key tree.labels label ≡ true → label.task < limit

-- the labels of each of the four trees are
abbrev pub AllBelow : ℕ → AreaTrees → Type 0
AllBelow limit trees = (area : Area) → AreBelow limit (tree_in trees area)

-- a tree that a task left: sealed, with labels of tasks below a number
pub record IsLeft {T : Type 0} (tree : T → Tree) (sealed : T → Label → Bool) (limit : ℕ) (left : T) : Type 0 where
  pub sound : IsTree (tree left)
  pub whole : IsSealed (tree left) (sealed left)
  pub older : AreBelow limit (tree left)

pub record AreLeft {T : Type 0} (tree : T → Tree) (sealed : T → Label → Bool) (limit : ℕ) (trees : Trees T) : Type 0 where
  pub build : IsLeft tree sealed limit trees.build
  pub host : IsLeft tree sealed limit trees.host
  pub staging : IsLeft tree sealed limit trees.staging
  pub target : IsLeft tree sealed limit trees.target

-- the four trees are trees, and their labels are of tasks below a number
pub record AreSound {T : Type 0} (tree : T → Tree) (limit : ℕ) (trees : Trees T) : Type 0 where
  pub sound : (area : Area) → IsTree (tree_in (trees_data tree trees) area)
  pub older : AllBelow limit (trees_data tree trees)

-- the world is held and has labels of its task and of those before it; and those before it left theirs
pub record AreTasks {T : Type 0} (tree : T → Tree) (sealed : T → Label → Bool) (world : World T) (ended : List (Trees T)) : Type 0 where
  pub held : IsHeldWorld tree sealed world
  pub own : AllBelow (world.pen.task + 1) (trees_data tree world.trees)
  pub left : All (AreLeft tree sealed world.pen.task) ended
