use Rattle.std.proofs.Common.{◌≡◌, ◌+◌, arith, length, get_or, sym, subst}
use Rattle.cycle_walks.specs.Order.{IsOrder}
use Rattle.kc_solve.specs.Filled.{names_within, with_value}
use Rattle.kc_solve.specs.Symbols.{symbol_at}
use Rattle.kc_solve.proofs.FillSteps.{IsFilledTo, place_short, symbol_fresh, filled_more, kept_next, filled_all}
use Rattle.kc_solve.proofs.Kept.{IsKept, kept_now}
use Rattle.kc_solve.proofs.fill.fill.Goals as goal

pub add_value-requires-clause-place : goal.add_value-requires-clause-place
add_value-requires-clause-place c =
    let index = c.args.index.now in
    let items = c.deref-place-items.result.now in
    let same : c.args.order.now ≡ items = cc in
    let order = subst (IsOrder (length index.symbols) (names_within index.menu.now index.symbols)) same c.requires.order in
    place_short index.menu.now index.wishes.now index.symbols c.requires.index.symbols c.requires.index.declared items order c.loop-place.place-index c.loop-place-test.true

pub add_value-requires-clause-fresh : goal.add_value-requires-clause-fresh
add_value-requires-clause-fresh c =
    let index = c.args.index.now in
    let items = c.deref-place-items.result.now in
    let same : c.args.order.now ≡ items = cc in
    let order = subst (IsOrder (length index.symbols) (names_within index.menu.now index.symbols)) same c.requires.order in
    symbol_fresh index.menu.now index.wishes.now index.symbols c.requires.index.symbols c.requires.index.declared items order c.loop-place.place-index c.loop-place-test.true c.loop-place.values c.loop-place.invariant.0

pub add_value-requires-clause-known : goal.add_value-requires-clause-known
add_value-requires-clause-known c =
    let index = c.args.index.now in
    kept_now index.menu.now index.wishes.now c.loop-place.values c.loop-place.chosen c.loop-place.invariant.1

pub loop-place-preserved : goal.loop-place-preserved
loop-place-preserved c =
    let index = c.args.index.now in
    let items = c.deref-place-items.result.now in
    let same : c.args.order.now ≡ items = cc in
    let order = subst (IsOrder (length index.symbols) (names_within index.menu.now index.symbols)) same c.requires.order in
    let made = c.in_ok-add_value.ensures in (
      subst (IsFilledTo index.menu.now index.wishes.now index.symbols items (c.loop-place.place-index + 1)) (sym made.values)
          (filled_more index.menu.now index.wishes.now index.symbols c.requires.index.symbols c.requires.index.declared items order c.loop-place.place-index c.loop-place-test.true c.loop-place.values c.loop-place.invariant.0),
      subst (λ values. IsKept index.menu.now index.wishes.now values c.add_value.new.chosen) (sym made.values)
          (subst (IsKept index.menu.now index.wishes.now (with_value index.menu.now index.wishes.now c.loop-place.values (symbol_at index.symbols (get_or items c.loop-place.place-index 0)))) (sym made.known)
          (kept_next index.menu.now index.wishes.now index.symbols c.requires.index.symbols c.requires.index.declared items order c.loop-place.place-index c.loop-place-test.true c.loop-place.values c.loop-place.invariant.0 c.loop-place.chosen c.loop-place.invariant.1)),
    )

pub returns : goal.returns
returns c =
    let index = c.args.index.now in
    let items = c.deref-place-items.result.now in
    let same : c.args.order.now ≡ items = cc in
    let order = subst (IsOrder (length index.symbols) (names_within index.menu.now index.symbols)) same c.requires.order in
    let whole : c.loop-place.place-index ≡ length items = omega arith in
    filled_all index.menu.now index.wishes.now index.symbols c.requires.index.symbols c.requires.index.declared items order c.loop-place.values
    (subst (λ count. IsFilledTo index.menu.now index.wishes.now index.symbols items count c.loop-place.values) whole c.loop-place.invariant.0)
