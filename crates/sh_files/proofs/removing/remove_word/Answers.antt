use Rattle.std.proofs.Common.{sym}
use Rattle.tree_worlds.specs.World.{world_data}
use Rattle.tree_worlds.specs.Program.{run}
use Rattle.sh_places.specs.Looks.{kind_at}
use Rattle.sh_places.proofs.Ran.{ran_same}
use Rattle.sh_files.specs.Removing.{remove_word, remove_kind}
use Rattle.sh_files.proofs.Missing.{removed_err, removed_at}
use Rattle.sh_files.proofs.removing.remove_word.Goals as goal

pub returns-in-Err-clause-ran : goal.returns-in-Err-clause-ran
returns-in-Err-clause-ran g c =
    rw c.missing.ensures (removed_err c.args.files.now c.args.force c.args.recursive c.args.word.now c.in_ok-operand.operand c.in-Err.error (world_data g.T.TreeOps.tree c.args.world.now) c.in_ok-operand.ensures.ran c.in-Err.ensures)

pub returns-clause-ran : goal.returns-clause-ran
returns-clause-ran g c =
    let world = world_data g.T.TreeOps.tree c.args.world.now in
    ran_same (run (remove_kind c.args.files.now c.args.force c.args.recursive c.in-Ok.place (kind_at world c.args.files.now c.in-Ok.place)) world) (run (remove_word c.args.files.now c.args.force c.args.recursive c.args.word.now) world) c.remove_place.result (world_data g.T.TreeOps.tree c.remove_place.new.world)
    (sym (removed_at c.args.files.now c.args.force c.args.recursive c.args.word.now c.in_ok-operand.operand c.in-Ok.place world c.in_ok-operand.ensures.ran c.in-Ok.ensures)) c.remove_place.ensures.ran
