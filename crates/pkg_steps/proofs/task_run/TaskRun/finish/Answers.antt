use Rattle.pkg_steps.proofs.Numbering.{few_steps}
use Rattle.pkg_steps.proofs.task_run.TaskRun.finish.Goals as goal

pub run_row-requires-clause-few : goal.run_row-requires-clause-few
run_row-requires-clause-few g c = few_steps c.args.self.plan.now c.args.self.task c.row.result.now c.row.ensures.plan c.row.ensures.row
