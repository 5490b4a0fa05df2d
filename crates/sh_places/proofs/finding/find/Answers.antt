use Rattle.std.proofs.lemmas.Result.{err_from_is_err_and}
use Rattle.tree_worlds.specs.World.{world_data}
use Rattle.tree_worlds.specs.Operand.{operand_of}
use Rattle.sh_places.specs.Finding.{spot_of}
use Rattle.sh_places.proofs.Ran.{attempt_on, attempt_err}
use Rattle.sh_places.proofs.finding.find.Goals as goal

pub returns-in_err-operand : goal.returns-in_err-operand
returns-in_err-operand g c =
    let world = world_data g.T.TreeOps.tree c.args.world.now in
    let given = err_from_is_err_and c.from_residual.result c.from_residual.ensures.1 in
    rw (given.1, given.2) (attempt_err (operand_of world c.args.files.now c.args.word.now) (spot_of world c.args.follow) c.in_err-operand.field-0.0 world world c.in_err-operand.ensures.ran)

pub returns : goal.returns
returns g c =
    let world = world_data g.T.TreeOps.tree c.args.world.now in
    attempt_on (operand_of world c.args.files.now c.args.word.now) (spot_of world c.args.follow) c.in_ok-operand.operand world world c.resolve.result c.in_ok-operand.ensures.ran c.resolve.ensures
