use Rattle.std.proofs.Common.{◌≡◌, ◌++◌, ◌∷◌, [], true, flat_map, sym, subst}
use Rattle.task_shelves.specs.Labels.{are_among, drawers_on}
use Rattle.pkg_steps.proofs.Drawn.{drawn_by_task}
use Rattle.pkg_steps.proofs.Taking.{if_ok}
use Rattle.pkg_steps.proofs.task_run.TaskRun.run.Goals as goal

pub returns-clause-labels : goal.returns-clause-labels
returns-clause-labels g c = λ keeps.
    if_ok c.finish.result
    (λ s is shelves taken.
    subst (λ shelf. are_among (flat_map drawers_on shelves ++ c.args.self.task ∷ []) (drawers_on shelf) ≡ true) (sym (is shelves taken))
    (drawn_by_task c.args.self.plan.now (g.C.Commands.shell c.args.commands.now) c.args.self.task shelves keeps))
    c.finish.ensures.shelf
