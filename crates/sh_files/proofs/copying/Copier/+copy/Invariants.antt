use Rattle.std.proofs.Common.{◌≡◌, ◌+◌, ◌*◌, drop}
use Rattle.tree_worlds.specs.World.{world_data}
use Rattle.tree_worlds.specs.Program.{run}
use Rattle.tree_worlds.specs.HeldWorld.{IsHeldWorld}
use Rattle.sh_files.specs.Copying.{places_of, each_copy, copy_entry, copy_below}
use Rattle.sh_files.proofs.copying.Copier.+copy.Given as goal

abbrev pub decreases-copy_names : goal.decreases-copy_names
decreases-copy_names g l = 5 * l.depth + 4

abbrev pub decreases-copy_entry : goal.decreases-copy_entry
decreases-copy_entry g l = 5 * l.depth + 3

abbrev pub decreases-copy_kind : goal.decreases-copy_kind
decreases-copy_kind g l = 5 * l.depth + 2

abbrev pub decreases-copy_folder : goal.decreases-copy_folder
decreases-copy_folder g l = 5 * l.depth + 1

abbrev pub decreases-copy_below : goal.decreases-copy_below
decreases-copy_below g l = 5 * l.depth

-- what is left to do from here is what was to do at first
abbrev pub invariant-copy_names-loop-name : goal.invariant-copy_names-loop-name
invariant-copy_names-loop-name g l = record {
  left : run (each_copy (copy_entry (copy_below l.depth l.self.files.now l.self.manner) l.self.files.now l.self.manner l.source l.at) (places_of l.copied) (drop l.name-index l.names)) (world_data g.T.TreeOps.tree l.world)
      ≡ run (each_copy (copy_entry (copy_below l.depth l.self.files.now l.self.manner) l.self.files.now l.self.manner l.source l.at) (places_of l.fn.copied) l.names) (world_data g.T.TreeOps.tree l.fn.world);
  held : IsHeldWorld g.T.TreeOps.tree g.T.TreeOps.sealed l.world;
}
