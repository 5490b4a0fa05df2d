use Rattle.std.proofs.Common.{ap, ◌∙◌}
use Rattle.br_run.specs.Built.{has_failed}
use Rattle.br_run.proofs.Failed.{any_after}
use Rattle.br_run.proofs.build.some_failed.Goals as goal

pub loop-task-preserved : goal.loop-task-preserved
loop-task-preserved g c =
    any_after (λ task. has_failed (g.S.Shelves.shelves c.args.shelves.now task)) c.loop-task.task c.loop-task.failed c.has_failed-failed.result c.loop-task.invariant
    (c.has_failed-failed.ensures ∙ ap has_failed c.shelf.ensures.shelf)
