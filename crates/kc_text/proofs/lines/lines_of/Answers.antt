use Rattle.std.proofs.Common.{arith, ◌≤◌, ◌<◌, ◌+◌, ℕ, List, [], length, get_or, Bor}
use Rattle.kc_text.proofs.Pieces.{raw_line_short, raw_lines_few}
use Rattle.kc_text.proofs.lines.lines_of.Goals as goal

pub overflow_add-number : goal.overflow_add-number
overflow_add-number c =
    let few : length c.deref-raw-items.result.now ≤ length c.args.text.now + 1 = raw_lines_few c.args.text.now c.deref-raw-items.result.now (rw c.deref-raw-items.ensures.value c.in_ok-raws.ensures) in
    omega arith

pub take_line-requires : goal.take_line-requires
take_line-requires c =
    let below : c.loop-raw.raw-index < length c.deref-raw-items.result.now = c.loop-raw-test.true in
    let d : Bor (List ℕ) = record { ref_ptr = (0, 0); now = [] } in
    let short : length (get_or c.deref-raw-items.result.now c.loop-raw.raw-index d).now ≤ length c.args.text.now = raw_line_short c.args.text.now c.deref-raw-items.result.now c.loop-raw.raw-index d (rw c.deref-raw-items.ensures.value c.in_ok-raws.ensures) below in
    omega (arith, short)
