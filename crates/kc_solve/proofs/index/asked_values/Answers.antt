use Rattle.std.proofs.Common.{length, ap, ◌∙◌}
use Rattle.kc_solve.specs.Groups.{grouped}
use Rattle.kc_solve.specs.Index.{placed_wishes}
use Rattle.kc_solve.specs.Symbols.{place_of}
use Rattle.kc_solve.proofs.IndexRows.{put_more}
use Rattle.kc_solve.proofs.index.asked_values.Goals as goal

pub loop-wish-preserved : goal.loop-wish-preserved
loop-wish-preserved c =
    let symbols = c.args.symbols.now in
    let wishes = c.args.wishes.now in
    let wish = c.wish-item.result in
    put_more (λ w. (place_of symbols w.symbol, w.value)) c.loop-wish.rows c.put.new.self wishes c.loop-wish.wish-index wish c.place.result _ (grouped (length symbols) (placed_wishes symbols wishes))
    c.loop-wish-test.true c.wish-item.is c.in_ok-put.ensures
    (ap (λ found. (found, wish.value)) (c.place.ensures ∙ ap (place_of symbols) c.as_slice.ensures))
    c.loop-wish.invariant
