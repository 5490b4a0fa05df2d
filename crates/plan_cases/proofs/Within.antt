-- Tasks of a plan are below their number.
use Rattle.std.proofs.Common.{ℕ, ◌<◌, List, length}
use Rattle.std.specs.Prelude.{All}
use Rattle.std.proofs.lemmas.Option.{slice_get_within}
use Rattle.std.proofs.lemmas.List.Elements.{All-weaker}
use Rattle.plan_rows.specs.declared.rows.Part.TheVariants.{Prep}
use Rattle.plan_rows.specs.Plan.{Planned, IsTask}

pub tasks_within : (plan : Planned) (tasks : List ℕ) → All (IsTask plan Prep) tasks → All (λ task. task < length plan.rows) tasks
tasks_within plan = All-weaker (IsTask plan Prep) (λ task. task < length plan.rows) (λ task is. slice_get_within plan.rows task is.0 is.1)
