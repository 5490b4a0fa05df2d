use Rattle.std.proofs.Common.{length, sym, ap, ◌∙◌, arith}
use Rattle.root_image.specs.Reader.{place_of, state_of}
use Rattle.root_image.proofs.Loop.{line-turn, refusal-refuses, end-gathers, end-refuses, some-lines}
use Rattle.root_image.proofs.image.read_lines.Goals as goal

pub returns-in-Err-clause-fault : goal.returns-in-Err-clause-fault
returns-in-Err-clause-fault c =
    rw c.error_at.ensures
    (refusal-refuses (state_of c.loop-line.reader) (state_of c.line.new.self) c.loop-line.number c.args.text.now c.loop-line.rest.now c.in-Some.line.now c.in-Some.more.now c.in-Err.refusal
    c.requires.lines c.loop-line.invariant.answer c.in-Some.ensures.lines c.in-Err.ensures)

pub overflow_add-number : goal.overflow_add-number
overflow_add-number c = omega (arith, ap length c.in-Some.ensures.lines, some-lines c.in-Some.more.now, c.loop-line.invariant.counted, c.requires.lines)

pub loop-line-preserved : goal.loop-line-preserved
loop-line-preserved c = record {
  answer =
      sym (line-turn (state_of c.loop-line.reader) (state_of c.line.new.self) c.loop-line.number c.loop-line.rest.now c.in-Some.line.now c.in-Some.more.now c.in-Some.ensures.lines c.in_default-line.ensures)
      ∙ c.loop-line.invariant.answer;
  counted = omega (arith, ap length c.in-Some.ensures.lines, c.loop-line.invariant.counted);
}

pub returns-in-None-clause-ok : goal.returns-in-None-clause-ok
returns-in-None-clause-ok c =
    end-gathers c.loop-line.reader.entries.items (place_of c.loop-line.reader.stand) c.loop-line.number c.args.text.now c.loop-line.rest.now c.requires.lines c.loop-line.invariant.answer c.in_default.ensures.lines (sym c.in-None.ensures)

pub returns-in-Some-end_kind-clause-fault : goal.returns-in-Some-end_kind-clause-fault
returns-in-Some-end_kind-clause-fault c =
    end-refuses c.loop-line.reader.entries.items (place_of c.loop-line.reader.stand) c.loop-line.number c.args.text.now c.loop-line.rest.now c.in-Some-end_kind.kind c.requires.lines c.loop-line.invariant.answer c.in_default.ensures.lines
    (sym c.in-Some-end_kind.ensures)
