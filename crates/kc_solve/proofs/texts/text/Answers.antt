use Rattle.kc_solve.specs.Symbols.{symbol_at}
use Rattle.kc_solve.proofs.Chosen.{choice_there}
use Rattle.kc_solve.proofs.texts.text.Goals as goal

pub taken-member-requires-clause-choice : goal.taken-member-requires-clause-choice
taken-member-requires-clause-choice c =
    let index = c.args.index.now in
    let symbol = symbol_at index.symbols c.args.place in
    choice_there index.menu.now c.requires.index.menu symbol c.own-own.result.now c.own-own.ensures c.in-Some.entry.now c.in-Some.ensures.value c.in-Some-choice.choice c.in-Some-choice.is
