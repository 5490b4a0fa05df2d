use Rattle.std.proofs.Common.{◌≡◌, [], All, length}
use Rattle.tree_ops.specs.Walk.{IsWalk}
use Rattle.tree_worlds.specs.World.{world_data}
use Rattle.tree_worlds.specs.Program.{run}
use Rattle.tree_worlds.specs.HeldWorld.{IsHeldWorld}
use Rattle.sh_files.specs.Folders.{ensure_folders}
use Rattle.sh_files.proofs.folders.ensure_folders.Given as goal

-- what is left to do from here is what was to do at first
abbrev pub invariant-loop-name : goal.invariant-loop-name
invariant-loop-name g l = record {
  left : run (ensure_folders l.files l.site l.mode l.front.items l.left) (world_data g.T.TreeOps.tree l.world) ≡ run (ensure_folders l.files l.site l.mode [] l.names) (world_data g.T.TreeOps.tree l.fn.world);
  held : IsHeldWorld g.T.TreeOps.tree g.T.TreeOps.sealed l.world;
  front : IsWalk l.front.items;
  names : All IsWalk l.left;
}

abbrev pub decreases-loop-name : goal.decreases-loop-name
decreases-loop-name g l = length l.left
