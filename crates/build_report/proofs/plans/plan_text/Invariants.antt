use Rattle.std.proofs.Common.{◌≡◌, take}
use Rattle.std.specs.Prelude.{flat_map}
use Rattle.build_report.specs.Plans.{task_line}
use Rattle.build_report.proofs.plans.plan_text.Given as goal

-- the lines of the tasks so far
abbrev pub invariant-loop-task : goal.invariant-loop-task
invariant-loop-task l = l.items.items ≡ flat_map (task_line l.plan) (take l.task-index l.task-items)
