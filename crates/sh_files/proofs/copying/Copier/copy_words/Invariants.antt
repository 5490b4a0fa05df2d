use Rattle.std.proofs.Common.{◌≡◌, drop}
use Rattle.tree_worlds.specs.World.{world_data}
use Rattle.tree_worlds.specs.Program.{run}
use Rattle.tree_worlds.specs.HeldWorld.{IsHeldWorld}
use Rattle.sh_files.specs.Copying.{places_of, each_copy, copy_source}
use Rattle.sh_files.proofs.copying.Copier.copy_words.Given as goal

-- what is left to do from here is what was to do at first
abbrev pub invariant-loop-word : goal.invariant-loop-word
invariant-loop-word g l = record {
  left : run (each_copy (copy_source l.self.files.now l.self.manner l.goal) (places_of l.copied) (drop l.word-index l.words)) (world_data g.T.TreeOps.tree l.world)
      ≡ run (each_copy (copy_source l.self.files.now l.self.manner l.goal) (places_of l.fn.copied) l.words) (world_data g.T.TreeOps.tree l.fn.world);
  held : IsHeldWorld g.T.TreeOps.tree g.T.TreeOps.sealed l.world;
}
