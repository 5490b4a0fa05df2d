use Rattle.std.proofs.Common.{ap, ◌∙◌, arith}
use Rattle.cycle_walks.specs.Graph.{is_in}
use Rattle.kc_solve.proofs.Named.{names_in_row}
use Rattle.kc_solve.proofs.naming.graph.Goals as goal

pub returns-clause-names : goal.returns-clause-names
returns-clause-names c = λ s t from to.
    let index = c.args.index.now in
    ap (λ row. is_in row t) (c.loop-place.invariant.made s (omega (arith, from, c.count-place-end.ensures.count)))
    ∙ names_in_row index.menu.now index.symbols c.requires.symbols c.requires.declared s t from to
