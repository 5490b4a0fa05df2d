use Rattle.std.proofs.lemmas.Result.{err_from_is_err_and}
use Rattle.tree_worlds.specs.World.{world_data}
use Rattle.tree_worlds.specs.Program.{run}
use Rattle.sh_places.specs.Parts.{each}
use Rattle.sh_places.proofs.Ran.{each_next, each_stop}
use Rattle.sh_text.specs.Sed.{edit_file}
use Rattle.sh_text.proofs.sed.edit_files.Goals as goal

pub returns-in_err-edit_file-clause-ran : goal.returns-in_err-edit_file-clause-ran
returns-in_err-edit_file-clause-ran g c =
    let world = world_data g.T.TreeOps.tree c.args.world.now in
    let new = world_data g.T.TreeOps.tree c.edit_file.new.world in
    let program = edit_file c.args.files.now c.args.script.now in
    let whole = run (each program c.args.words.now) world in
    let given = err_from_is_err_and c.from_residual.result c.from_residual.ensures.1 in
    rw (given.1, given.2) (
    each_stop program c.args.words.now c.loop-word.word-index c.word-item.result c.as_slice.result.now c.in_err-edit_file.field-0.0 (world_data g.T.TreeOps.tree c.loop-word.world) new whole c.loop-word-test.true c.word-item.is c.as_slice.ensures
    c.loop-word.invariant.left c.in_err-edit_file.ensures.ran
    )

pub loop-word-preserved : goal.loop-word-preserved
loop-word-preserved g c = record {
  left = each_next (edit_file c.args.files.now c.args.script.now) c.args.words.now c.loop-word.word-index c.word-item.result c.as_slice.result.now (world_data g.T.TreeOps.tree c.loop-word.world) (world_data g.T.TreeOps.tree c.edit_file.new.world)
      (run (each (edit_file c.args.files.now c.args.script.now) c.args.words.now) (world_data g.T.TreeOps.tree c.args.world.now)) c.loop-word-test.true c.word-item.is c.as_slice.ensures c.loop-word.invariant.left c.in_ok-edit_file.ensures.ran;
  held = c.in_ok-edit_file.ensures.held;
}
