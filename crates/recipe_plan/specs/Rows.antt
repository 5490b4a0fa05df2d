-- The rows of the tasks.
use Rattle.std.specs.Prelude.{ℕ, ◌+◌, ◌%◌, ◌==◌, Bool, false, not, List, [], ◌∷◌, ◌++◌, length, filter, Result, Ok}
use Rattle.dep_graph.specs.Needs.{Needs, needs_of}
use Rattle.mk_expand.specs.Vars.{Table}
use Rattle.plan_rows.specs.declared.rows.Part.{Part}
use Rattle.plan_rows.specs.declared.rows.Part.TheVariants.{Prep, Make}
use Rattle.plan_rows.specs.declared.rows.StepRow.{StepRow}
use Rattle.plan_rows.specs.declared.rows.TaskRow.{TaskRow}
use Rattle.plan_rows.specs.Plan.{own_prep_of}
use Rattle.recipe_set.specs.declared.fault.PlanFault.{PlanFault}
use Rattle.selection.specs.declared.listed.Listed.{Listed}
use Rattle.recipe_plan.specs.Answers.{◌>>=◌, in_turn}
use Rattle.recipe_plan.specs.Steps.{task_steps}

-- a make task has an odd number
abbrev pub is_make : ℕ → Bool
is_make task = not (task % 2 == 0)

-- of what a prep needs, it may read the build trees of preps; a make has the tree of its own prep, and reads no other
abbrev pub is_readable : Part → ℕ → Bool
is_readable Prep need = not (is_make need)
is_readable Make need = false

-- the row of a task: what it needs is its own prep, the makes whose trees fill its own, and the preps whose build trees it may read
abbrev pub row_of : Listed → Part → ℕ → List ℕ → List StepRow → TaskRow
row_of item part task needs steps = record {
  «package» = item.made.name;
  folder = item.made.folder;
  host = item.made.host;
  part = part;
  steps = steps;
  fills = filter is_make needs;
  own_prep = own_prep_of part task;
  readable = filter (is_readable part) needs;
}

-- the row of a task with its steps
abbrev pub task_row : Table → Needs → Listed → Part → ℕ → Result TaskRow PlanFault
task_row vars needs item part task = task_steps vars item.made part >>= λ steps. Ok (row_of item part task (needs_of needs task) steps)

-- the row of a package's task after those of the tasks before it
abbrev pub put_task : Table → Needs → List TaskRow → Listed → Part → Result (List TaskRow) PlanFault
put_task vars needs rows item part = task_row vars needs item part (length rows) >>= λ row. Ok (rows ++ row ∷ [])

-- the rows of a package's two tasks after those of the packages before it
abbrev pub put_rows : Table → Needs → List TaskRow → Listed → Result (List TaskRow) PlanFault
put_rows vars needs rows item =
    task_row vars needs item Prep (length rows) >>= λ prep. task_row vars needs item Make (length rows + 1) >>= λ make. Ok (rows ++ prep ∷ make ∷ [])

-- the rows of all tasks
abbrev pub all_rows : Table → Needs → List Listed → Result (List TaskRow) PlanFault
all_rows vars needs chosen = in_turn (put_rows vars needs) [] chosen
