use Rattle.std.proofs.lemmas.Result.{err_from_is_err_and}
use Rattle.tree_worlds.specs.World.{world_data}
use Rattle.tree_worlds.specs.Program.{run}
use Rattle.sh_files.specs.Copying.{places_of, each_copy, copy_entry, copy_below}
use Rattle.sh_files.proofs.Copies.{copy_next, copy_stop}
use Rattle.sh_files.proofs.copying.Copier.+copy.Goals as goal

pub copy_names-returns-in_err-copy_entry-clause-ran : goal.copy_names-returns-in_err-copy_entry-clause-ran
copy_names-returns-in_err-copy_entry-clause-ran g n c =
    let world = world_data g.T.TreeOps.tree c.args.world.now in
    let new = world_data g.T.TreeOps.tree c.copy_entry.new.world in
    let files = c.args.self.now.files.now in
    let program = copy_entry (copy_below c.args.depth files c.args.self.now.manner) files c.args.self.now.manner c.args.source.now c.args.at.now in
    let whole = run (each_copy program (places_of c.args.copied.now) c.args.names.now) world in
    let given = err_from_is_err_and c.from_residual.result c.from_residual.ensures.1 in
    rw (given.1, given.2) (
    copy_stop program c.args.names.now c.loop-name.name-index c.name-item.result c.as_slice.result.now (places_of c.loop-name.copied) (places_of c.copy_entry.new.copied) (places_of c.copy_entry.new.copied) c.in_err-copy_entry.field-0.0
    (world_data g.T.TreeOps.tree c.loop-name.world) new whole c.loop-name-test.true c.name-item.is c.as_slice.ensures c.loop-name.invariant.left c.in_err-copy_entry.ensures.ran
    )

pub copy_names-loop-name-preserved : goal.copy_names-loop-name-preserved
copy_names-loop-name-preserved g n c =
    let files = c.args.self.now.files.now in
    let program = copy_entry (copy_below c.args.depth files c.args.self.now.manner) files c.args.self.now.manner c.args.source.now c.args.at.now in
    record {
      left = copy_next program c.args.names.now c.loop-name.name-index c.name-item.result c.as_slice.result.now (places_of c.loop-name.copied) (places_of c.copy_entry.new.copied)
          (world_data g.T.TreeOps.tree c.loop-name.world) (world_data g.T.TreeOps.tree c.copy_entry.new.world) (run (each_copy program (places_of c.args.copied.now) c.args.names.now) (world_data g.T.TreeOps.tree c.args.world.now))
          c.loop-name-test.true c.name-item.is c.as_slice.ensures c.loop-name.invariant.left c.in_ok-copy_entry.ensures.ran;
      held = c.in_ok-copy_entry.ensures.held;
    }
