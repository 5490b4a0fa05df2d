use Rattle.std.proofs.Common.{◌++◌, ap, ◌∙◌}
use Rattle.build_report.specs.Builds as text
use Rattle.build_report.proofs.OneMore.{lines_more}
use Rattle.build_report.proofs.builds.push_packages.Goals as goal

pub loop-task-preserved : goal.loop-task-preserved
loop-task-preserved g c =
    let line = text.task_line c.args.plan.now (g.S.Shelves.shelves c.args.shelves.now) in
    c.in_ok-push_make.ensures ∙ ap (λ items. items ++ line c.loop-task.task) c.loop-task.invariant ∙ lines_more line c.args.items.now.items c.loop-task.task
