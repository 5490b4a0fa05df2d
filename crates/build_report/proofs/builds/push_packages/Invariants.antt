use Rattle.std.proofs.Common.{◌≡◌, ◌++◌}
use Rattle.std.specs.Prelude.{flat_map}
use Rattle.std.specs.List.{range_with_len}
use Rattle.build_report.specs.Builds.{task_line}
use Rattle.build_report.proofs.builds.push_packages.Given as goal

-- the lines of the tasks so far stand after what was there
abbrev pub invariant-loop-task : goal.invariant-loop-task
invariant-loop-task g l = l.items.items ≡ l.initial.items.items ++ flat_map (task_line l.plan (g.S.Shelves.shelves l.shelves)) (range_with_len 0 l.task)
