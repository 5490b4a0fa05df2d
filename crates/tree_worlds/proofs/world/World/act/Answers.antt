use Rattle.std.proofs.Common.{subst, sym, Err}
use Rattle.tree_worlds.specs.Program.{run, Ran, Act}
use Rattle.tree_worlds.specs.World.{world_data}
use Rattle.tree_worlds.specs.Steps.{change_of}
use Rattle.tree_worlds.proofs.Putting.{run-refused, Ran-ok, Ran-err}
use Rattle.tree_worlds.proofs.world.World.act.Goals as goal

pub returns-then-not-may_change-clause-ran : goal.returns-then-not-may_change-clause-ran
returns-then-not-may_change-clause-ran g c =
    run-refused c.args.area (change_of c.args.step) (world_data g.T.TreeOps.tree c.args.self.now) c.may_change.result c.may_change.ensures c.if-not-may_change.true

pub returns-in-Ok-clause-ran : goal.returns-in-Ok-clause-ran
returns-in-Ok-clause-ran g c =
    Ran-ok c.args.area c.args.step (world_data g.T.TreeOps.tree c.args.self.now) (world_data g.T.TreeOps.tree c.put.new.self) c.may_change.result c.requires.modest c.may_change.ensures c.if-not-may_change.false c.in-Ok.ensures.put

pub returns-in-Err-clause-ran : goal.returns-in-Err-clause-ran
returns-in-Err-clause-ran g c =
    subst (λ error. Ran (run (Act c.args.area (change_of c.args.step)) (world_data g.T.TreeOps.tree c.args.self.now)) (Err error) (world_data g.T.TreeOps.tree c.put.new.self)) (sym c.error_of.ensures)
    (Ran-err c.args.area c.args.step (world_data g.T.TreeOps.tree c.args.self.now) (world_data g.T.TreeOps.tree c.put.new.self) c.may_change.result c.in-Err.fault c.requires.modest c.may_change.ensures c.if-not-may_change.false c.in-Err.ensures.put)
