use Rattle.std.proofs.Common.{◌≡◌, take}
use Rattle.std.specs.Prelude.{flat_map}
use Rattle.build_report.specs.Plans.{name_line}
use Rattle.build_report.proofs.plans.names_text.Given as goal

-- the lines of the packages so far
abbrev pub invariant-loop-task : goal.invariant-loop-task
invariant-loop-task l = l.items.items ≡ flat_map (name_line l.plan) (take l.task-index l.task-items)
