use Rattle.std.proofs.Common.{length, ap, ◌∙◌}
use Rattle.kc_solve.specs.Groups.{grouped}
use Rattle.kc_solve.specs.Index.{placed_entries}
use Rattle.kc_solve.specs.Symbols.{place_of}
use Rattle.kc_solve.proofs.IndexRows.{put_more}
use Rattle.kc_solve.proofs.index.own_entries.Goals as goal

pub loop-entry-preserved : goal.loop-entry-preserved
loop-entry-preserved c =
    let symbols = c.args.symbols.now in
    let entries = c.args.entries.now in
    let entry = c.entry-item.result in
    put_more (λ e. (place_of symbols e.symbol, e)) c.loop-entry.rows c.put.new.self entries c.loop-entry.entry-index entry c.place.result _ (grouped (length symbols) (placed_entries symbols entries))
    c.loop-entry-test.true c.entry-item.is c.in_ok-put.ensures
    (ap (λ found. (found, entry)) (c.place.ensures ∙ ap (place_of symbols) c.as_slice.ensures))
    c.loop-entry.invariant
