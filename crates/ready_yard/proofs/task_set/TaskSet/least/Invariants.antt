use Rattle.std.proofs.Common.{◌≡◌, ℕ, ◌*◌, ◌<◌, false}
use Rattle.ready_yard.specs.TaskBits.{has}
use Rattle.ready_yard.proofs.task_set.TaskSet.least.Given as goal

abbrev pub invariant-loop-place : goal.invariant-loop-place
invariant-loop-place l = (task : ℕ) → task < l.place * 64 → has l.self task ≡ false
