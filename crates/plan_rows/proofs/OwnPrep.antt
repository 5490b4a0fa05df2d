-- The own prep of a task is a task of the plan.
use Rattle.std.proofs.Common.{ℕ, ◌≡◌, ◌-◌, ◌<◌, Some, length, sym, ◌∙◌, arith}
use Rattle.plan_rows.specs.declared.rows.Part.{Part}
use Rattle.plan_rows.specs.declared.rows.Part.TheVariants.{Prep, Make}
use Rattle.plan_rows.specs.declared.rows.TaskRow.{TaskRow}
use Rattle.plan_rows.specs.Plan.{Planned, HasRow, IsPlan, own_prep_of}

own_within : (part : Part) (task prep count : ℕ) → own_prep_of part task ≡ Some prep → task < count → prep < count
own_within Prep task prep count is below = absurd (cc)
own_within Make task prep count is below = let same : task - 1 ≡ prep = cc in omega (arith, same, below)

pub prep_within : (plan : Planned) (task : ℕ) (row : TaskRow) (prep : ℕ) → IsPlan plan → HasRow plan task row → row.own_prep ≡ Some prep → task < length plan.rows → prep < length plan.rows
prep_within plan task row prep is has own = own_within row.part task prep (length plan.rows) (sym (is.rows task row has).own_prep ∙ own)
