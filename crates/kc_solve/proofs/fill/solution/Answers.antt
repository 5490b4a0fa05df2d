use Rattle.std.proofs.Common.{◌≡◌, sym, ap, subst, ◌∙◌}
use Rattle.std.proofs.lemmas.Result.{IfOk-weaker}
use Rattle.kc_equations.specs.Solution.{IsSolution}
use Rattle.kc_solve.specs.Filled.{in_order}
use Rattle.kc_solve.proofs.Filling.{filled_fit, filled_solution}
use Rattle.kc_solve.proofs.fill.solution.Goals as goal

pub in_order-requires : goal.in_order-requires
in_order-requires c = filled_fit c.args.index.now.menu.now c.args.index.now.wishes.now c.in_ok-filled.filled c.in_ok-filled.ensures

pub returns : goal.returns
returns c =
    let menu = c.args.index.now.menu.now in
    let wishes = c.args.index.now.wishes.now in
    let filled = c.in_ok-filled.filled in
    IfOk-weaker c.in_order.result (λ values. values ≡ in_order filled c.entries.result.now) (IsSolution menu wishes)
    (λ values is. subst (IsSolution menu wishes) (sym (is ∙ ap (in_order filled) c.entries.ensures.entries)) (filled_solution menu wishes filled c.in_ok-filled.ensures))
    c.in_order.ensures
