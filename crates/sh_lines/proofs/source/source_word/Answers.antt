use Rattle.std.proofs.Common.{rules, ap, ◌∙◌}
use Rattle.std.proofs.lemmas.List.{take_all}
use Rattle.br_path.specs.Path.{closed}
use Rattle.sh_lines.proofs.source.source_word.Goals as goal

pub returns : goal.returns
returns c =
    let all = take_all c.loop-name.name-index c.names-name-items.result.now c.loop-name-test.false in
    let named = c.loop-name.invariant ∙ ap closed (all ∙ c.names-name-items.ensures.names) in
    search (rules, named)
