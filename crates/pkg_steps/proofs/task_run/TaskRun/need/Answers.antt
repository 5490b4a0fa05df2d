use Rattle.std.proofs.Common.{refl}
use Rattle.task_shelves.specs.Shelf.{shelf_data}
use Rattle.pkg_steps.proofs.Taking.{on_ok_both, taken-more}
use Rattle.pkg_steps.proofs.task_run.TaskRun.need.Goals as goal

pub returns-clause-taken : goal.returns-clause-taken
returns-clause-taken g c =
    on_ok_both c.hand_in.result
    (λ unbuilt given. taken-more g.T.TreeOps.tree c.args.self.now _ c.hand_in.new.self c.next_need-need.result (shelf_data g.T.TreeOps.tree c.args.shelf.now) c.next_need-need.ensures.need refl refl refl refl refl unbuilt given c.hand_in.ensures.same)
    c.hand_in.ensures.unbuilt c.hand_in.ensures.given
