use Rattle.std.proofs.Common.{sym}
use Rattle.tree_worlds.specs.World.{world_data}
use Rattle.tree_worlds.specs.Program.{run}
use Rattle.sh_places.specs.Looks.{kind_at}
use Rattle.sh_places.proofs.Ran.{ran_same}
use Rattle.sh_files.specs.Touching.{touch_word, touch_kind}
use Rattle.sh_files.proofs.Missing.{touched_err, touched_at}
use Rattle.sh_files.proofs.touching.touch_word.Goals as goal

pub returns-in-Err-clause-ran : goal.returns-in-Err-clause-ran
returns-in-Err-clause-ran g c =
    rw c.missing.ensures (touched_err c.args.files.now c.args.only_there c.args.word.now c.in_ok-operand.operand c.in-Err.error (world_data g.T.TreeOps.tree c.args.world.now) c.in_ok-operand.ensures.ran c.in-Err.ensures)

pub returns-clause-ran : goal.returns-clause-ran
returns-clause-ran g c =
    let world = world_data g.T.TreeOps.tree c.args.world.now in
    ran_same (run (touch_kind c.args.only_there c.in-Ok.place (kind_at world c.args.files.now c.in-Ok.place)) world) (run (touch_word c.args.files.now c.args.only_there c.args.word.now) world) c.touch_place.result (world_data g.T.TreeOps.tree c.touch_place.new.world)
    (sym (touched_at c.args.files.now c.args.only_there c.args.word.now c.in_ok-operand.operand c.in-Ok.place world c.in_ok-operand.ensures.ran c.in-Ok.ensures)) c.touch_place.ensures.ran
