-- Tasks within their limits.
use Rattle.std.specs.Prelude.{◌≡◌, ◌≤◌, ◌+◌, true, [], IsSome}
use Rattle.br_path.specs.declared.area.Area.{Area}
use Rattle.tree_ops.specs.Pen.{is_within_limits}
use Rattle.tree_ops.specs.Tree.{node_at}
use Rattle.tree_worlds.specs.HeldWorld.{names_in, texts_in}
use Rattle.tree_worlds.specs.World.{WorldData, tree_in}
use Rattle.task_shelves.specs.Shelf.{ShelfData, Built, Failed, Skipped}

-- each tree has its root; the pen counts the names of all four together, roots left out, and the bytes of their paths' texts; and no
-- count is above its limit
pub record IsCounted (world : WorldData) : Type 0 where
  pub roots : (area : Area) → IsSome (node_at (tree_in world.trees area) [])
  pub names : names_in world.trees ≡ world.pen.names + 4
  pub texts : texts_in world.trees ≡ world.pen.path_bytes
  pub limits : is_within_limits world.pen ≡ true

-- what is counted stays so
abbrev pub KeepsCounts : WorldData → WorldData → Type 0
KeepsCounts old new = IsCounted old → IsCounted new

-- in the four trees of a built task stand at most 16,384 names beside their roots, and the texts of their paths have at most 1,048,576 bytes
abbrev pub IsWithinLimits : ShelfData → Type 0
IsWithinLimits (Built trees written stamps) = (names_in trees ≤ 16384 + 4) × (texts_in trees ≤ 1048576)
IsWithinLimits (Failed step line status reason stamps) = Unit {0}
IsWithinLimits (Skipped by) = Unit {0}
