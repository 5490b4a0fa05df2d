use Rattle.std.proofs.Common.{length, refl}
use Rattle.kc_solve.specs.Groups.{grouped}
use Rattle.kc_solve.specs.Index.{placed_members}
use Rattle.kc_solve.proofs.IndexRows.{put_more}
use Rattle.kc_solve.proofs.index.member_entries.Goals as goal

pub loop-entry-preserved : goal.loop-entry-preserved
loop-entry-preserved c =
    let entries = c.args.entries.now in
    let entry = c.entry-item.result in
    put_more (λ e. (e.choice, e)) c.loop-entry.rows c.put.new.self entries c.loop-entry.entry-index entry entry.choice _ (grouped (length c.args.choices.now) (placed_members entries))
    c.loop-entry-test.true c.entry-item.is c.in_ok-put.ensures refl c.loop-entry.invariant
