use Rattle.std.proofs.Common.{rules, ap, ◌∙◌}
use Rattle.tree_worlds.specs.World.{world_data}
use Rattle.sh_lines.specs.Source.{is_dir}
use Rattle.sh_lines.proofs.Found.{folder-answered, folder-refused}
use Rattle.sh_lines.proofs.source.is_folder.Goals as goal

pub returns-in-Ok : goal.returns-in-Ok
returns-in-Ok g c = c.is_dir.ensures ∙ ap is_dir c.kind_at.ensures.kind ∙ folder-answered (world_data g.T.TreeOps.tree c.args.world.now) c.args.files.now c.args.word.now c.find.result c.in-Ok.spot c.in-Ok.is c.find.ensures

pub returns-in-Err-Failed : goal.returns-in-Err-Failed
returns-in-Err-Failed g c = folder-refused (world_data g.T.TreeOps.tree c.args.world.now) c.args.files.now c.args.word.now c.find.result c.in-Err-Failed.field-0-0 (search rules) c.find.ensures
