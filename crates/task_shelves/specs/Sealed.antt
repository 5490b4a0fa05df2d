-- Shelves whose trees nobody changes any more.
use Rattle.std.specs.Prelude.{Bool}
use Rattle.tree_ops.specs.declared.entry.Label.{Label}
use Rattle.tree_ops.specs.Held.{IsSealed}
use Rattle.tree_ops.specs.Tree.{Tree, IsTree}
use Rattle.tree_worlds.specs.declared.world.Trees.{Trees}
use Rattle.task_shelves.specs.declared.shelf.Shelf.{Shelf}
use Rattle.task_shelves.specs.declared.shelf.Shelf.TheVariants.{Built, Failed, Skipped}

-- it is a tree, and all its labels are sealed
pub record IsSealedTree {T : Type 0} (tree : T → Tree) (sealed : T → Label → Bool) (t : T) : Type 0 where
  pub sound : IsTree (tree t)
  pub whole : IsSealed (tree t) (sealed t)

pub record AreSealed {T : Type 0} (tree : T → Tree) (sealed : T → Label → Bool) (trees : Trees T) : Type 0 where
  pub build : IsSealedTree tree sealed trees.build
  pub host : IsSealedTree tree sealed trees.host
  pub staging : IsSealedTree tree sealed trees.staging
  pub target : IsSealedTree tree sealed trees.target

-- the trees on a shelf are sealed
abbrev pub IsSealedShelf : {T : Type 0} → (T → Tree) → (T → Label → Bool) → Shelf T → Type 0
IsSealedShelf tree sealed (Built trees written stamps) = AreSealed tree sealed trees
IsSealedShelf tree sealed (Failed step line status reason stamps) = Unit {0}
IsSealedShelf tree sealed (Skipped by) = Unit {0}
