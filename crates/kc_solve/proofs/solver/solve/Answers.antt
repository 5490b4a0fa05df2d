use Rattle.std.proofs.Common.{subst, IfOk, IfErr}
use Rattle.kc_equations.specs.Faults.{IsFirstFault, IsSolved}
use Rattle.kc_solve.proofs.solver.solve.Goals as goal

pub returns-clause-ok : goal.returns-clause-ok
returns-clause-ok c =
    let result = c.solve_indexed.result in
    let index = c.in_ok-index.index in
    let known = c.in_ok-index.ensures in
    subst (λ wishes. IfOk result (λ solved. IsSolved c.args.menu.now wishes solved.values solved.forced)) known.wishes
    (subst (λ menu. IfOk result (λ solved. IsSolved menu index.wishes.now solved.values solved.forced)) known.menu c.solve_indexed.ensures.ok)

pub returns-clause-err : goal.returns-clause-err
returns-clause-err c =
    let result = c.solve_indexed.result in
    let index = c.in_ok-index.index in
    let known = c.in_ok-index.ensures in
    subst (λ wishes. IfErr result (IsFirstFault c.args.menu.now wishes)) known.wishes
    (subst (λ menu. IfErr result (IsFirstFault menu index.wishes.now)) known.menu c.solve_indexed.ensures.err)
