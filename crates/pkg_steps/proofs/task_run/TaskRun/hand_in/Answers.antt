use Rattle.std.proofs.Common.{[], sym, ap, ◌∙◌}
use Rattle.tree_ops.specs.Pen.{counts_of}
use Rattle.tree_worlds.specs.World.{trees_data}
use Rattle.task_shelves.specs.Labels.{is_among, drawers_on}
use Rattle.task_shelves.specs.Shelf.{shelf_data}
use Rattle.pkg_steps.specs.Filling.{owner_of}
use Rattle.pkg_steps.proofs.Taking.{on_ok, given-built}
use Rattle.pkg_steps.proofs.Untouched.{foreign-shelf}
use Rattle.pkg_steps.proofs.task_run.TaskRun.hand_in.Goals as goal

pub take-requires-clause-foreign : goal.take-requires-clause-foreign
take-requires-clause-foreign g c =
    foreign-shelf (trees_data g.T.TreeOps.tree c.in-Built.trees) [] [] (counts_of c.args.self.now.world.pen) c.args.self.now.task c.requires.held.own
    (ap (λ s. is_among (drawers_on (shelf_data g.T.TreeOps.tree s)) c.args.self.now.task) (sym c.in-Built.is) ∙ c.requires.foreign)

pub returns-in-Built-clause-given : goal.returns-in-Built-clause-given
returns-in-Built-clause-given g c =
    on_ok c.take.result
    (λ taken row there none.
    given-built row (owner_of c.args.self.now.plan.now) c.args.need (shelf_data g.T.TreeOps.tree c.args.shelf.now) (trees_data g.T.TreeOps.tree c.in-Built.trees) _ _ _ _
    (ap (shelf_data g.T.TreeOps.tree) c.in-Built.is) (taken row there))
    c.take.ensures.taken
