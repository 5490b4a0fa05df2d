use Rattle.std.proofs.Common.{[], ◌∷◌, ◌++◌, sym, ap, ◌∙◌}
use Rattle.std.proofs.lemmas.Result.{err_from_is_err_and}
use Rattle.recipe_plan.proofs.RowLaws.{row_fails, row_put}
use Rattle.recipe_plan.proofs.rows.put_task.Goals as goal

pub returns-in_err-row : goal.returns-in_err-row
returns-in_err-row c =
    let given = err_from_is_err_and c.from_residual.result c.from_residual.ensures.1 in
    rw (given.1, given.2) (λ free. row_fails c.args.owner.now.vars.now c.args.graph.now c.args.item.now c.args.part (c.as_slice.ensures.value ∙ c.rows.view_is)
    c.in_err-row.field-0.0 (c.in_err-row.ensures free))

pub returns : goal.returns
returns c = row_put c.args.owner.now.vars.now c.args.graph.now c.args.item.now c.args.part (c.as_slice.ensures.value ∙ c.rows.view_is)
    c.in_ok-row.row c.push.new.self.items c.in_ok-row.ensures
    (c.in_ok-push.ensures.items ∙ ap (λ list. list ++ c.in_ok-row.row ∷ []) (sym c.as_slice.ensures.value))
