use Rattle.std.proofs.lemmas.Result.{err_from_is_err_and}
use Rattle.recipe_plan.specs.Planning.{unselected}
use Rattle.recipe_plan.proofs.HeldLaws.{selecting_held, held_unless}
use Rattle.recipe_plan.proofs.planning.choose.Goals as goal

pub returns-in_err-selection-clause-fault : goal.returns-in_err-selection-clause-fault
returns-in_err-selection-clause-fault c =
    let given = err_from_is_err_and c.from_residual-in_err-selection.result c.from_residual-in_err-selection.ensures.1 in
    rw (given.1, given.2) (λ off. unselected c.in_ok-recipes.recipes c.in_ok-recipes.ensures.recipes (c.in_err-selection.ensures.err off))

pub returns-in_err-selection-clause-held : goal.returns-in_err-selection-clause-held
returns-in_err-selection-clause-held c =
    let given = err_from_is_err_and c.from_residual-in_err-selection.result c.from_residual-in_err-selection.ensures.1 in
    rw (given.1, given.2) (held_unless c.in_err-selection.field-0.0 (λ off. selecting_held (c.in_err-selection.ensures.err off)))
