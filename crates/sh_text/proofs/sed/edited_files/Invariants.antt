use Rattle.std.proofs.Common.{◌≡◌, [], drop}
use Rattle.tree_worlds.specs.World.{world_data}
use Rattle.tree_worlds.specs.Program.{run}
use Rattle.sh_text.specs.Sed.{edited_files}
use Rattle.sh_text.proofs.sed.edited_files.Given as goal

-- what is left to do from here is what was to do at first
abbrev pub invariant-loop-word : goal.invariant-loop-word
invariant-loop-word g l =
    run (edited_files l.files l.script l.output (drop l.word-index l.words)) (world_data g.T.TreeOps.tree l.world) ≡ run (edited_files l.files l.script [] l.words) (world_data g.T.TreeOps.tree l.world)
