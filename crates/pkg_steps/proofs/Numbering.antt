-- The lines of each step have numbers, since a task has few.
use Rattle.std.proofs.Common.{ℕ, ◌≤◌, List, [], ◌∷◌, ◌++◌, flat_map, length, length-append, All, arith}
use Rattle.std.proofs.lemmas.List.Elements.{All-nil, All-cons}
use Rattle.plan_rows.specs.Plan.{Planned, HasRow, IsPlan}
use Rattle.plan_rows.specs.declared.rows.StepRow.{StepRow}
use Rattle.plan_rows.specs.declared.rows.TaskRow.{TaskRow}
use Rattle.pkg_steps.specs.Stepping.{AreFew}

few-each : (rows : List StepRow) → length (flat_map (λ step. step.before ++ step.lines ++ step.after) rows) ≤ 262144 → All AreFew rows
few-each [] few = All-nil AreFew
few-each (row ∷ rows) few =
    let rest = flat_map (λ step. step.before ++ step.lines ++ step.after) rows in
    let first = row.before ++ row.lines ++ row.after in
    All-cons AreFew row rows (omega (few, length-append first rest, length-append (row.before ++ row.lines) row.after, length-append row.before row.lines, arith)) (few-each rows (omega (few, length-append first rest, arith)))

pub few_steps : (plan : Planned) (task : ℕ) (row : TaskRow) → IsPlan plan → HasRow plan task row → All AreFew row.steps
few_steps plan task row is there = few-each row.steps ((is.rows task row there).lines.few)
