use Rattle.std.proofs.Common.{◌≡◌, drop}
use Rattle.tree_worlds.specs.World.{world_data}
use Rattle.tree_worlds.specs.Program.{run}
use Rattle.tree_worlds.specs.HeldWorld.{IsHeldWorld}
use Rattle.sh_places.specs.Parts.{each}
use Rattle.sh_files.specs.Touching.{touch_word}
use Rattle.sh_files.proofs.touching.touch_words.Given as goal

-- what is left to do from here is what was to do at first
abbrev pub invariant-loop-word : goal.invariant-loop-word
invariant-loop-word g l = record {
  left : run (each (touch_word l.files l.only_there) (drop l.word-index l.words)) (world_data g.T.TreeOps.tree l.world) ≡ run (each (touch_word l.files l.only_there) l.words) (world_data g.T.TreeOps.tree l.fn.world);
  held : IsHeldWorld g.T.TreeOps.tree g.T.TreeOps.sealed l.world;
}
