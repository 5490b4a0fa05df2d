use Rattle.std.proofs.Common.{◌≡◌, ◌<◌, length, sym, subst, ◌∙◌, arith}
use Rattle.std.proofs.lemmas.Result.{IfOk-weaker}
use Rattle.kc_solve.specs.Sequence.{IsLeastOnCycle}
use Rattle.kc_solve.proofs.Sequences.{least_up}
use Rattle.kc_solve.proofs.sequence.least_symbol.Goals as goal

pub returns : goal.returns
returns c =
    let index = c.args.index.now in
    let least = c.in_ok-least.least in
    let short : least < length index.symbols = omega (arith, c.in_ok-least.ensures.node, c.requires.graph.nodes, c.requires.node) in
    let found = least_up index.menu.now index.symbols c.requires.index.symbols c.requires.index.declared c.args.graph.now c.requires.graph least short c.in_ok-least.ensures.least in
    IfOk-weaker c.from_slice.result (λ b. b ≡ c.symbol.result.now) (IsLeastOnCycle index.menu.now)
    (λ b is. subst (IsLeastOnCycle index.menu.now) (sym (is ∙ c.symbol.ensures)) found)
    c.from_slice.ensures
