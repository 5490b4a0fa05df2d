use Rattle.std.proofs.Common.{ℕ, false, List, subst}
use Rattle.tree_worlds.specs.World.{world_data}
use Rattle.tree_worlds.specs.Program.{Ran, run, ◌>>=◌}
use Rattle.sh_places.specs.Parts.{find}
use Rattle.sh_places.proofs.Ran.{ran_on}
use Rattle.sh_files.specs.Goals.{base_for}
use Rattle.sh_files.specs.Moving.{move_from}
use Rattle.sh_files.proofs.Attempts.{gives_on}
use Rattle.sh_files.proofs.moving.move_source.Goals as goal

pub returns-clause-ran : goal.returns-clause-ran
returns-clause-ran g c =
    let world = world_data g.T.TreeOps.tree c.args.world.now in
    let new = world_data g.T.TreeOps.tree c.move_from.new.world in
    gives_on (base_for c.args.goal.now c.args.word.now) (λ base. find c.args.files.now c.args.word.now false >>= move_from c.args.files.now c.args.goal.now base) c.in_ok-base.base world new c.move_from.result c.in_ok-base.ensures.base
    (ran_on (run (find c.args.files.now c.args.word.now false) world) (λ source. run (move_from c.args.files.now c.args.goal.now c.in_ok-base.base source)) c.in_ok-source.source world new c.move_from.result c.in_ok-source.ensures
    (subst (λ (base : List ℕ). Ran (run (move_from c.args.files.now c.args.goal.now base c.in_ok-source.source) world) c.move_from.result new) c.as_slice.ensures c.move_from.ensures.ran))
