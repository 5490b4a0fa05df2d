use Rattle.std.proofs.Common.{◌≡◌}
use Rattle.std.specs.List.{list_any, range_with_len}
use Rattle.br_run.specs.Built.{has_failed}
use Rattle.br_run.proofs.build.some_failed.Given as goal

-- whether one of the tasks so far failed
abbrev pub invariant-loop-task : goal.invariant-loop-task
invariant-loop-task g l = l.failed ≡ list_any (λ task. has_failed (g.S.Shelves.shelves l.shelves task)) (range_with_len 0 l.task)
