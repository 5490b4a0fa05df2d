use Rattle.std.proofs.Common.{[], ◌∷◌, map, ap, ◌∙◌}
use Rattle.kc_equations.specs.Behind.{selects_behind}
use Rattle.kc_solve.specs.Groups.{put_all}
use Rattle.kc_solve.specs.Index.{placed_selects}
use Rattle.kc_solve.specs.Symbols.{place_of}
use Rattle.kc_solve.proofs.IndexRows.{put_select_more}
use Rattle.kc_solve.proofs.index.put_selects.Goals as goal

pub loop-select-preserved : goal.loop-select-preserved
loop-select-preserved c =
    let symbols = c.args.symbols.now in
    let entry = c.args.entry.now in
    let select = c.select-item.result in
    put_select_more (λ s. (place_of symbols s.symbol, (entry, s))) c.loop-select.rows c.put.new.self c.deref-select-items.result.now c.loop-select.select-index select c.place.result _
    (put_all (map selects_behind c.args.rows.now) (placed_selects symbols (entry ∷ [])))
    c.loop-select-test.true c.select-item.is c.in_ok-put.ensures
    (ap (λ found. (found, (entry, select))) (c.place.ensures ∙ ap (place_of symbols) c.as_slice.ensures))
    c.loop-select.invariant
