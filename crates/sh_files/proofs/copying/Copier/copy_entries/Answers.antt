use Rattle.tree_worlds.specs.World.{world_data}
use Rattle.sh_files.specs.Copying.{places_of}
use Rattle.sh_files.proofs.Copies.{entries_on}
use Rattle.sh_files.proofs.copying.Copier.copy_entries.Goals as goal

pub returns-clause-ran : goal.returns-clause-ran
returns-clause-ran g c =
    entries_on c.args.self.now.files.now c.args.self.now.manner c.args.goal.now (places_of c.args.copied.now) (places_of c.copy_folder.new.copied) c.args.word.now c.in_ok-source.source c.place.result.now c.in_ok-mode.mode c.copy_folder.result
    (world_data g.T.TreeOps.tree c.args.world.now) (world_data g.T.TreeOps.tree c.copy_folder.new.world) c.place.ensures c.in_ok-source.ensures c.in_ok-mode.ensures.ran c.copy_folder.ensures.ran
