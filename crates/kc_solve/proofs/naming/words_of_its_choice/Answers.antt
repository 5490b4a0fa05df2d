use Rattle.std.proofs.Common.{◌<◌, sym, subst, ◌∙◌}
use Rattle.kc_solve.specs.Symbols.{symbol_at}
use Rattle.kc_solve.proofs.Chosen.{choice_short}
use Rattle.kc_solve.proofs.Named.{chosen_at}
use Rattle.kc_solve.proofs.naming.words_of_its_choice.Goals as goal

pub bounds-chosen-choice : goal.bounds-chosen-choice
bounds-chosen-choice c =
    let index = c.args.index.now in
    let short = choice_short index.menu.now c.requires.index.menu (symbol_at index.symbols c.args.place) c.in-Some.choice (sym c.in-Some.ensures) in
    subst (λ n. c.in-Some.choice < n) (sym c.requires.chosen.count) short

pub returns-in-Some : goal.returns-in-Some
returns-in-Some c =
    let index = c.args.index.now in
    let s = symbol_at index.symbols c.args.place in
    let short = choice_short index.menu.now c.requires.index.menu s c.in-Some.choice (sym c.in-Some.ensures) in
    c.as_slice.ensures
    ∙ chosen_at index.menu.now s c.args.chosen.now c.requires.chosen c.in-Some.choice c.index-chosen-choice.result (subst (λ n. c.in-Some.choice < n) (sym c.requires.chosen.count) short) c.index-chosen-choice.is (sym c.in-Some.ensures)
