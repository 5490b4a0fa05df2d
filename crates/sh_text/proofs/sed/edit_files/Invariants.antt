use Rattle.std.proofs.Common.{◌≡◌, drop}
use Rattle.tree_worlds.specs.World.{world_data}
use Rattle.tree_worlds.specs.Program.{run}
use Rattle.tree_worlds.specs.HeldWorld.{IsHeldWorld}
use Rattle.sh_places.specs.Parts.{each}
use Rattle.sh_text.specs.Sed.{edit_file}
use Rattle.sh_text.proofs.sed.edit_files.Given as goal

-- what is left to do from here is what was to do at first
abbrev pub invariant-loop-word : goal.invariant-loop-word
invariant-loop-word g l = record {
  left : run (each (edit_file l.files l.script) (drop l.word-index l.words)) (world_data g.T.TreeOps.tree l.world) ≡ run (each (edit_file l.files l.script) l.words) (world_data g.T.TreeOps.tree l.fn.world);
  held : IsHeldWorld g.T.TreeOps.tree g.T.TreeOps.sealed l.world;
}
