use Rattle.std.proofs.Common.{Ok, sym, subst}
use Rattle.std.proofs.lemmas.Result.{err_from_is_err_and}
use Rattle.recipe_plan.specs.Planning.{IsNaming, no_choice, named}
use Rattle.recipe_plan.proofs.planning.task_names.Goals as goal

pub returns-in_err-choice-clause-fault : goal.returns-in_err-choice-clause-fault
returns-in_err-choice-clause-fault c =
    let given = err_from_is_err_and c.from_residual.result c.from_residual.ensures.1 in
    rw (given.1, given.2) (λ off. no_choice c.in_err-choice.field-0.0 (c.in_err-choice.ensures.fault off))

pub returns-clause-names : goal.returns-clause-names
returns-clause-names c =
    let choice = c.in_ok-choice.choice in
    subst (λ names. IsNaming c.args.files.now c.args.values.now (Ok names)) (sym c.in_ok-names_of.ensures) (named choice.recipes choice.selection c.in_ok-choice.ensures.choice)
