use Rattle.std.proofs.Common.{Err, sym, ap}
use Rattle.std.proofs.lemmas.Result.{err_from_is_err_and}
use Rattle.tree_worlds.specs.World.{world_data}
use Rattle.tree_worlds.specs.Program.{Refuse, run}
use Rattle.tree_worlds.specs.declared.reason.Reason.TheVariants.{Operand as no_operand}
use Rattle.sh_places.specs.Parts.{choose, each}
use Rattle.sh_places.proofs.Ran.{ran_same, each_next, each_stop}
use Rattle.sh_files.specs.Install.{install_folder}
use Rattle.sh_files.proofs.Walked.{not-empty}
use Rattle.sh_files.proofs.install.install_folders.Goals as goal

pub returns-in_err-install_folder-clause-ran : goal.returns-in_err-install_folder-clause-ran
returns-in_err-install_folder-clause-ran g c =
    let world = world_data g.T.TreeOps.tree c.args.world.now in
    let new = world_data g.T.TreeOps.tree c.install_folder.new.world in
    let program = install_folder c.args.files.now c.args.mode in
    let whole = run (each program c.args.words.now) world in
    let given = err_from_is_err_and c.from_residual.result c.from_residual.ensures.1 in
    rw (given.1, given.2) (
    ran_same whole (run (choose _ (Refuse no_operand) (each program c.args.words.now)) world) (Err c.in_err-install_folder.field-0.0) new
    (ap (λ empty. run (choose empty (Refuse no_operand) (each program c.args.words.now)) world) (sym (not-empty c.args.words.now c.is_empty.result c.is_empty.ensures c.if-is_empty.false)))
    (each_stop program c.args.words.now c.loop-word.word-index c.word-item.result c.as_slice.result.now c.in_err-install_folder.field-0.0 (world_data g.T.TreeOps.tree c.loop-word.world) new whole c.loop-word-test.true c.word-item.is c.as_slice.ensures
    c.loop-word.invariant.left c.in_err-install_folder.ensures.ran)
    )

pub loop-word-preserved : goal.loop-word-preserved
loop-word-preserved g c = record {
  left = each_next (install_folder c.args.files.now c.args.mode) c.args.words.now c.loop-word.word-index c.word-item.result c.as_slice.result.now (world_data g.T.TreeOps.tree c.loop-word.world) (world_data g.T.TreeOps.tree c.install_folder.new.world)
      (run (each (install_folder c.args.files.now c.args.mode) c.args.words.now) (world_data g.T.TreeOps.tree c.args.world.now)) c.loop-word-test.true c.word-item.is c.as_slice.ensures c.loop-word.invariant.left c.in_ok-install_folder.ensures.ran;
  held = c.in_ok-install_folder.ensures.held;
}
