use Rattle.std.proofs.Common.{◌≡◌, Ok, Err, sym, subst}
use Rattle.std.proofs.lemmas.Result.{err_from_is_err_and}
use Rattle.recipe_plan.specs.Planning.{IsPlanOf, no_rows, no_order, planned}
use Rattle.recipe_plan.specs.Rows.{all_rows}
use Rattle.recipe_plan.proofs.HeldLaws.{held_unless, rows_held}
use Rattle.recipe_plan.proofs.PlanLaws.{plan_fits}
use Rattle.recipe_plan.proofs.planning.plan_of.Goals as goal

pub returns-in_err-rows-clause-fault : goal.returns-in_err-rows-clause-fault
returns-in_err-rows-clause-fault c =
    let given = err_from_is_err_and c.from_residual-in_err-rows.result c.from_residual-in_err-rows.ensures.1 in
    rw (given.1, given.2) (λ free. no_rows c.in_ok-graph.graph c.in_err-rows.field-0.0 c.in_ok-graph.ensures
    (subst (λ chosen. all_rows c.args.vars.now c.in_ok-graph.graph chosen ≡ Err c.in_err-rows.field-0.0) c.packages.ensures.packages (c.in_err-rows.ensures free)))

pub returns-in_err-rows-clause-held : goal.returns-in_err-rows-clause-held
returns-in_err-rows-clause-held c =
    let given = err_from_is_err_and c.from_residual-in_err-rows.result c.from_residual-in_err-rows.ensures.1 in
    rw (given.1, given.2) (held_unless c.in_err-rows.field-0.0 (λ free.
    rows_held c.args.vars.now c.in_ok-graph.graph c.packages.result.now c.in_err-rows.field-0.0 (c.in_err-rows.ensures free)))

pub returns-in_err-order-clause-fault : goal.returns-in_err-order-clause-fault
returns-in_err-order-clause-fault c =
    let given = err_from_is_err_and c.from_residual-in_err-order.result c.from_residual-in_err-order.ensures.1 in
    let rows = subst (λ chosen. all_rows c.args.vars.now c.in_ok-graph.graph chosen ≡ Ok c.in_ok-rows.rows) c.packages.ensures.packages c.in_ok-rows.ensures in
    rw (given.1, given.2) (λ free.
    let least = c.in_err-order.ensures.fault free in
    subst (λ fault. IsPlanOf c.args.vars.now c.args.selection.now (Err fault)) (sym least.1)
    (no_order c.in_ok-graph.graph c.in_ok-rows.rows least.0 c.in_ok-graph.ensures rows least.2))

pub new-requires : goal.new-requires
new-requires c =
    plan_fits c.args.vars.now c.args.selection.now c.in_ok-graph.graph c.in_ok-rows.rows c.in_ok-order.order c.packages.ensures.selection c.in_ok-graph.ensures
    (subst (λ chosen. all_rows c.args.vars.now c.in_ok-graph.graph chosen ≡ Ok c.in_ok-rows.rows) c.packages.ensures.packages c.in_ok-rows.ensures) c.in_ok-order.ensures.order

pub returns-clause-plan : goal.returns-clause-plan
returns-clause-plan c =
    let rows = subst (λ chosen. all_rows c.args.vars.now c.in_ok-graph.graph chosen ≡ Ok c.in_ok-rows.rows) c.packages.ensures.packages c.in_ok-rows.ensures in
    rw c.new.ensures (planned c.in_ok-graph.graph c.in_ok-rows.rows c.in_ok-order.order c.in_ok-graph.ensures rows c.in_ok-order.ensures.order)
