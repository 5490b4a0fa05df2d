use Rattle.std.proofs.lemmas.Result.{err_from_is_err_and}
use Rattle.tree_worlds.specs.World.{world_data}
use Rattle.tree_worlds.specs.Program.{run}
use Rattle.sh_places.specs.Parts.{each}
use Rattle.sh_places.proofs.Ran.{each_next, each_stop}
use Rattle.sh_files.specs.Linking.{link_one}
use Rattle.sh_files.proofs.linking.link_each.Goals as goal

pub returns-in_err-link_one-clause-ran : goal.returns-in_err-link_one-clause-ran
returns-in_err-link_one-clause-ran g c =
    let world = world_data g.T.TreeOps.tree c.args.world.now in
    let new = world_data g.T.TreeOps.tree c.link_one.new.world in
    let program = link_one c.args.files.now c.args.choices.symbolic c.args.choices.force c.args.goal.now in
    let whole = run (each program c.args.sources.now) world in
    let given = err_from_is_err_and c.from_residual.result c.from_residual.ensures.1 in
    rw (given.1, given.2) (
    each_stop program c.args.sources.now c.loop-word.word-index c.word-item.result c.as_slice.result.now c.in_err-link_one.field-0.0 (world_data g.T.TreeOps.tree c.loop-word.world) new whole c.loop-word-test.true c.word-item.is c.as_slice.ensures
    c.loop-word.invariant.left c.in_err-link_one.ensures.ran
    )

pub loop-word-preserved : goal.loop-word-preserved
loop-word-preserved g c = record {
  left = each_next (link_one c.args.files.now c.args.choices.symbolic c.args.choices.force c.args.goal.now) c.args.sources.now c.loop-word.word-index c.word-item.result c.as_slice.result.now (world_data g.T.TreeOps.tree c.loop-word.world) (world_data g.T.TreeOps.tree c.link_one.new.world)
      (run (each (link_one c.args.files.now c.args.choices.symbolic c.args.choices.force c.args.goal.now) c.args.sources.now) (world_data g.T.TreeOps.tree c.args.world.now)) c.loop-word-test.true c.word-item.is c.as_slice.ensures c.loop-word.invariant.left c.in_ok-link_one.ensures.ran;
  held = c.in_ok-link_one.ensures.held;
}
