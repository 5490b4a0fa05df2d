use Rattle.std.proofs.Common.{◌≡◌, true, false, take, get_or}
use Rattle.std.specs.List.{list_all}
use Rattle.ready_yard.proofs.past.all_over.Given as goal

abbrev pub invariant-loop-task : goal.invariant-loop-task
invariant-loop-task l = list_all (λ t. get_or l.over t false) (take l.task-index l.tasks) ≡ true
