use Rattle.std.proofs.Common.{subst}
use Rattle.std.proofs.lemmas.Result.{err_from_is_err_and}
use Rattle.recipe_plan.specs.Answers.{Leaves}
use Rattle.recipe_plan.proofs.RowLaws.{prep_fails, prep_put}
use Rattle.recipe_plan.proofs.rows.put_rows.Goals as goal

pub returns-in_err-put_task : goal.returns-in_err-put_task
returns-in_err-put_task c =
    let given = err_from_is_err_and c.from_residual-in_err-put_task.result c.from_residual-in_err-put_task.ensures.1 in
    rw (given.1, given.2) (λ free. prep_fails c.args.graph.now _ c.args.item.now c.in_ok-owner.ensures.vars c.in_err-put_task.field-0.0 (c.in_err-put_task.ensures free))

pub returns : goal.returns
returns c =
    subst (λ meant. Leaves meant c.put_task-2.result c.put_task-2.new.rows)
    (prep_put c.args.graph.now _ c.args.item.now c.in_ok-owner.ensures.vars c.put_task.new.rows c.in_ok-put_task.ensures) c.put_task-2.ensures
