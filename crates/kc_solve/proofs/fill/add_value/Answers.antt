use Rattle.kc_solve.proofs.FillSteps.{fit_at}
use Rattle.kc_solve.proofs.fill.add_value.Goals as goal

pub add-requires-clause-fit : goal.add-requires-clause-fit
add-requires-clause-fit c =
    let index = c.args.index.now in
    fit_at index.menu.now index.wishes.now index.symbols c.requires.index.declared c.args.values.now c.args.place c.requires.place c.in_ok-valued.valued c.in_ok-valued.ensures.value
