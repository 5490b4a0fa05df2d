use Rattle.std.proofs.Common.{◌≡◌, ◌+◌, List, [], ℕ, Bor, sym, ap, subst, ◌∙◌, arith}
use Rattle.kc_text.specs.Lines.{raw_lines}
use Rattle.dot_config.proofs.Readings.{AreRead, texts, one_read, fault_of}
use Rattle.dot_config.proofs.reader.wishes_of.Goals as goal

-- a line that is never looked at
none : Bor (List ℕ)
none = record { ref_ptr = (0, 0); now = [] }

pub returns-in-Err-clause-fault : goal.returns-in-Err-clause-fault
unfolding none
returns-in-Err-clause-fault c =
    let same : texts c.deref-line-items.result.now ≡ raw_lines c.args.text.now = ap texts c.deref-line-items.ensures.value ∙ c.in_ok-lines.ensures in
    fault_of c.args.text.now c.deref-line-items.result.now c.loop-line.line-index (c.loop-line.number + 1) none c.loop-line.all.items c.in-Err.fault same c.loop-line-test.true (omega arith) c.loop-line.invariant.read c.in-Err.ensures.fault

pub loop-line-preserved : goal.loop-line-preserved
unfolding none
loop-line-preserved c =
    let put = c.in_default.ensures.ok in
    record {
      counted = omega arith;
      read = subst (AreRead c.deref-line-items.result.now (c.loop-line.line-index + 1)) (sym put.2) (one_read c.deref-line-items.result.now c.loop-line.line-index (c.loop-line.number + 1) none c.loop-line.all.items put.0 c.loop-line-test.true (omega arith) c.loop-line.invariant.read put.1);
    }
