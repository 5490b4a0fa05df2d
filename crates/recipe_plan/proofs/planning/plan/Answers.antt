use Rattle.std.proofs.Common.{Ok, Err, ◌≢◌}
use Rattle.std.proofs.lemmas.Result.{IfErr-weaker, IfOk-weaker, err_from_is_err_and}
use Rattle.recipe_set.specs.declared.fault.PlanFault.TheVariants.{Memory}
use Rattle.recipe_plan.specs.Planning.{IsPlanOf, IsPlanning, no_choice, choice}
use Rattle.recipe_plan.proofs.planning.plan.Goals as goal

pub returns-in_err-choice-clause-fault : goal.returns-in_err-choice-clause-fault
returns-in_err-choice-clause-fault c =
    let given = err_from_is_err_and c.from_residual.result c.from_residual.ensures.1 in
    rw (given.1, given.2) (λ off. no_choice c.in_err-choice.field-0.0 (c.in_err-choice.ensures.fault off))

pub returns-clause-plan : goal.returns-clause-plan
returns-clause-plan c =
    let one = c.in_ok-choice.choice in
    IfOk-weaker c.plan_of.result (λ plan. IsPlanOf one.recipes.vars one.selection (Ok plan)) (λ plan. IsPlanning c.args.files.now c.args.values.now (Ok plan))
    (λ plan made. choice one.recipes one.selection c.in_ok-choice.ensures.choice made) c.plan_of.ensures.plan

pub returns-clause-fault : goal.returns-clause-fault
returns-clause-fault c =
    let one = c.in_ok-choice.choice in
    IfErr-weaker c.plan_of.result (λ fault. fault ≢ Memory → IsPlanOf one.recipes.vars one.selection (Err fault)) (λ fault. fault ≢ Memory → IsPlanning c.args.files.now c.args.values.now (Err fault))
    (λ fault made off. choice one.recipes one.selection c.in_ok-choice.ensures.choice (made off)) c.plan_of.ensures.fault
