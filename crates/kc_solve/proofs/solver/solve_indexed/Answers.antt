use Rattle.std.proofs.Common.{◌≡◌, true, sym, subst}
use Rattle.std.proofs.lemmas.Result.{err_from_is_err_and}
use Rattle.kc_equations.specs.Faults.{IsLeast, is_named_member, is_named_value, is_bad_number}
use Rattle.kc_solve.proofs.Sequences.{acyclic, cycle_first}
use Rattle.kc_solve.proofs.Solving.{least_member, no_member, least_value, no_value, least_number, solved_is}
use Rattle.kc_solve.proofs.solver.solve_indexed.Goals as goal

pub returns-in-Some-clause-err : goal.returns-in-Some-clause-err
returns-in-Some-clause-err c =
    let index = c.args.index.now in
    let least = least_member index.menu.now index.symbols c.requires.symbols c.requires.declared c.in-Some.symbol.now (sym c.in-Some.ensures) in
    subst (IsLeast (λ s. is_named_member index.menu.now.entries s ≡ true)) (sym c.in_ok-from_slice.ensures) least

pub returns-in-Some-least_named_value-clause-err : goal.returns-in-Some-least_named_value-clause-err
returns-in-Some-least_named_value-clause-err c =
    let index = c.args.index.now in
    let members = no_member index.menu.now index.symbols c.requires.symbols c.requires.declared (sym c.in_default.ensures) in
    let found = c.in-Some-least_named_value in
    let least = least_value index.menu.now index.symbols c.requires.symbols c.requires.declared found.symbol.now (sym found.ensures) in
    (members, subst (IsLeast (λ s. is_named_value index.menu.now.entries s ≡ true)) (sym c.in_ok-from_slice-2.ensures) least)

pub returns-in_err-order-clause-err : goal.returns-in_err-order-clause-err
returns-in_err-order-clause-err c =
    let index = c.args.index.now in
    let members = no_member index.menu.now index.symbols c.requires.symbols c.requires.declared (sym c.in_default.ensures) in
    let plain = no_value index.menu.now index.symbols c.requires.symbols c.requires.declared (sym c.in_default-least_named_value.ensures) in
    let first = cycle_first index.menu.now index.wishes.now c.in_err-order.field-0.0 members plain c.in_err-order.ensures.err in
    let given = err_from_is_err_and c.from_residual-in_err-order.result c.from_residual-in_err-order.ensures.1 in
    rw (given.1, given.2) first

pub returns-in-Some-least_bad_number-clause-err : goal.returns-in-Some-least_bad_number-clause-err
returns-in-Some-least_bad_number-clause-err c =
    let index = c.args.index.now in
    let values = c.in_ok-values.values in
    let members = no_member index.menu.now index.symbols c.requires.symbols c.requires.declared (sym c.in_default.ensures) in
    let plain = no_value index.menu.now index.symbols c.requires.symbols c.requires.declared (sym c.in_default-least_named_value.ensures) in
    let ordered = acyclic index.menu.now index.symbols c.requires.symbols c.requires.declared c.in_ok-order.order c.in_ok-order.ensures.ok in
    let found = c.in-Some-least_bad_number in
    let least = least_number index.menu.now index.symbols c.requires.symbols c.requires.declared index.wishes.now values c.in_ok-values.ensures found.symbol.now (sym found.ensures) in
    (members, plain, ordered, (values, c.in_ok-values.ensures, subst (IsLeast (λ s. is_bad_number values s ≡ true)) (sym c.in_ok-from_slice-3.ensures) least))

pub returns-clause-ok : goal.returns-clause-ok
returns-clause-ok c =
    let index = c.args.index.now in
    let ordered = acyclic index.menu.now index.symbols c.requires.symbols c.requires.declared c.in_ok-order.order c.in_ok-order.ensures.ok in
    solved_is index.menu.now index.symbols c.requires.symbols c.requires.declared index.wishes.now c.in_ok-values.values c.in_ok-values.ensures c.in_ok-forced.forced
    (sym c.in_default.ensures) (sym c.in_default-least_named_value.ensures) ordered (sym c.in_default-least_bad_number.ensures) c.in_ok-forced.ensures
