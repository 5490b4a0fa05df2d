use Rattle.std.proofs.lemmas.Result.{err_from_is_err_and}
use Rattle.tree_worlds.specs.World.{world_data}
use Rattle.tree_worlds.specs.Program.{run}
use Rattle.sh_files.specs.Copying.{places_of, each_copy, copy_source}
use Rattle.sh_files.proofs.Copies.{copy_next, copy_stop}
use Rattle.sh_files.proofs.copying.Copier.copy_words.Goals as goal

pub returns-in_err-copy_source-clause-ran : goal.returns-in_err-copy_source-clause-ran
returns-in_err-copy_source-clause-ran g c =
    let world = world_data g.T.TreeOps.tree c.args.world.now in
    let new = world_data g.T.TreeOps.tree c.copy_source.new.world in
    let program = copy_source c.args.self.now.files.now c.args.self.now.manner c.args.goal.now in
    let whole = run (each_copy program (places_of c.args.copied.now) c.args.words.now) world in
    let given = err_from_is_err_and c.from_residual.result c.from_residual.ensures.1 in
    rw (given.1, given.2) (
    copy_stop program c.args.words.now c.loop-word.word-index c.word-item.result c.as_slice.result.now (places_of c.loop-word.copied) (places_of c.copy_source.new.copied) (places_of c.copy_source.new.copied) c.in_err-copy_source.field-0.0
    (world_data g.T.TreeOps.tree c.loop-word.world) new whole c.loop-word-test.true c.word-item.is c.as_slice.ensures c.loop-word.invariant.left c.in_err-copy_source.ensures.ran
    )

pub loop-word-preserved : goal.loop-word-preserved
loop-word-preserved g c =
    let program = copy_source c.args.self.now.files.now c.args.self.now.manner c.args.goal.now in
    record {
      left = copy_next program c.args.words.now c.loop-word.word-index c.word-item.result c.as_slice.result.now (places_of c.loop-word.copied) (places_of c.copy_source.new.copied)
          (world_data g.T.TreeOps.tree c.loop-word.world) (world_data g.T.TreeOps.tree c.copy_source.new.world) (run (each_copy program (places_of c.args.copied.now) c.args.words.now) (world_data g.T.TreeOps.tree c.args.world.now))
          c.loop-word-test.true c.word-item.is c.as_slice.ensures c.loop-word.invariant.left c.in_ok-copy_source.ensures.ran;
      held = c.in_ok-copy_source.ensures.held;
    }
