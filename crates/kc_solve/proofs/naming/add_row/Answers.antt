use Rattle.std.proofs.Common.{◌≡◌, OnOk, subst, ◌∙◌}
use Rattle.cycle_walks.specs.Graph.{row}
use Rattle.kc_equations.specs.Behind.{behind}
use Rattle.kc_solve.specs.Symbols.{symbol_at}
use Rattle.kc_solve.proofs.Named.{row_gathered}
use Rattle.kc_solve.proofs.naming.add_row.Goals as goal

pub returns-clause-row : goal.returns-clause-row
returns-clause-row c =
    let index = c.args.index.now in
    let place = c.args.place in
    subst (λ all. OnOk c.add_names-2.result (row c.add_names-2.new.graph place ≡ all))
    (row_gathered index.menu.now index.symbols (symbol_at index.symbols place) (row c.args.graph.now place) (row c.add_names.new.graph place) (behind c.as_slice.result.now) (behind c.words_of_its_choice.result.now)
    c.requires.fresh c.in_ok-add_names.ensures.row (c.as_slice.ensures ∙ c.in_ok-words.ensures) c.words_of_its_choice.ensures)
    c.add_names-2.ensures.row
