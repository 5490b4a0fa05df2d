use Rattle.std.proofs.Common.{rules, ◌≡◌, ◌∙◌, true, false, None}
use Rattle.kc_rows.specs.Row.{row}
use Rattle.kc_syntax.specs.Events.{source_events, line_events, is_reading}
use Rattle.kc_syntax.specs.Shown.{shown}
use Rattle.kc_syntax.proofs.Runs.{file_fault, file_end, line_string, line_none, lines_fault, lines_next, row_events_plain, follows_row}
use Rattle.kc_syntax.proofs.Sources.{file_small, source_none, source_deep, source_loop, source_refused, source_read}
use Rattle.kc_syntax.proofs.reader.Reader.+reading.Goals as goal

pub read_file-returns-in-Err-clause-follows : goal.read_file-returns-in-Err-clause-follows
read_file-returns-in-Err-clause-follows t c =
    file_fault (source_events c.args.depth c.args.files.now c.args.reading.now.items) c.args.file.now c.args.bytes.now c.as_slice.result.now (shown c.args.self.now) (shown c.enter_file.new.self) c.in-Err.error
    (c.as_slice.ensures.value ∙ c.in_ok-lines.ensures) c.in_ok-enter_file.ensures c.in-Err.ensures.follows

pub read_file-returns-clause-follows : goal.read_file-returns-clause-follows
read_file-returns-clause-follows t c =
    file_end (source_events c.args.depth c.args.files.now c.args.reading.now.items) c.args.file.now c.args.bytes.now c.as_slice.result.now (shown c.args.self.now) (shown c.enter_file.new.self) (shown c.read_lines.new.self) _ c.leave_file.result
    (c.as_slice.ensures.value ∙ c.in_ok-lines.ensures) c.in_ok-enter_file.ensures c.in_default.ensures.follows c.leave_file.ensures

pub read_line-returns-in_default-clause-follows : goal.read_line-returns-in_default-clause-follows
read_line-returns-in_default-clause-follows t c =
    line_string (source_events c.args.depth c.args.files.now c.args.reading.now.items) c.args.file.now c.args.line.now (shown c.args.self.now) c.fault.result c.in_default.is c.fault.ensures

pub read_line-returns-in-None-clause-follows : goal.read_line-returns-in-None-clause-follows
read_line-returns-in-None-clause-follows t c =
    let none : row c.in-Some.parts ≡ None = cc (c.in_ok-row.ensures, c.as_slice.ensures.value, c.parts.view_is) in
    line_none (source_events c.args.depth c.args.files.now c.args.reading.now.items) c.args.file.now c.args.line.now c.in-Some.parts (shown c.args.self.now) c.fault-in-None.result c.in-Some.is none c.fault-in-None.ensures

pub read_lines-returns-in-Err-clause-follows : goal.read_lines-returns-in-Err-clause-follows
read_lines-returns-in-Err-clause-follows t c =
    lines_fault (line_events (source_events c.args.depth c.args.files.now c.args.reading.now.items) c.args.file.now) c.args.lines.now c.loop-line.line-index c.line-item.result (shown c.args.self.now) (shown c.loop-line.self) c.in-Err.error
    c.loop-line-test.true c.line-item.is c.loop-line.invariant.follows (rw c.loop-line.invariant.reading at c.in-Err.ensures.follows)

pub read_lines-loop-line-preserved : goal.read_lines-loop-line-preserved
read_lines-loop-line-preserved t c = record {
  follows = lines_next (line_events (source_events c.args.depth c.args.files.now c.args.reading.now.items) c.args.file.now) c.args.lines.now c.loop-line.line-index c.line-item.result (shown c.args.self.now) (shown c.loop-line.self) (shown c.read_line.new.self)
      c.loop-line-test.true c.line-item.is c.loop-line.invariant.follows (rw c.loop-line.invariant.reading at c.in_default.ensures.follows);
  reading = c.in_default.ensures.reading ∙ c.loop-line.invariant.reading;
}

pub read_row-returns-in_default : goal.read_row-returns-in_default
read_row-returns-in_default t c = record {
  follows = rw (row_events_plain (source_events c.args.depth c.args.files.now c.args.reading.now.items) c.args.file.now c.args.line c.args.row c.in_default.not-Source) (follows_row c.args.file.now c.args.line c.args.row (shown c.args.self.now) _ c.take_row.result c.take_row.ensures);
  reading = search rules;
}

pub source-returns-in_default-clause-follows : goal.source-returns-in_default-clause-follows
source-returns-in_default-clause-follows t c =
    source_none c.args.depth c.args.files.now c.args.reading.now.items c.args.file.now c.args.line c.args.path.now c.in_ok-found.field-0 c.in_ok-found.ensures
    (shown c.args.self.now) c.fault.result c.in_default.is c.fault.ensures

pub source-returns-then-depth-eq0-clause-follows : goal.source-returns-then-depth-eq0-clause-follows
source-returns-then-depth-eq0-clause-follows t c =
    source_deep c.args.depth c.args.files.now c.args.reading.now.items c.args.file.now c.args.line c.args.path.now c.in_ok-found.field-0 c.in_ok-found.ensures c.in-Some.found c.in-Some.bytes c.in-Some.is
    (shown c.args.self.now) c.fault-then-depth-eq0.result c.if-depth-eq0.true c.fault-then-depth-eq0.ensures

pub source-returns-then-is_reading-clause-follows : goal.source-returns-then-is_reading-clause-follows
source-returns-then-is_reading-clause-follows t c =
    let twice : is_reading c.args.reading.now.items c.in-Some.found ≡ true = search rules in
    source_loop c.args.depth c.args.files.now c.args.reading.now.items c.args.file.now c.args.line c.args.path.now c.in_ok-found.field-0 c.in_ok-found.ensures c.in-Some.found c.in-Some.bytes c.in-Some.is c.if-depth-eq0.false
    (shown c.args.self.now) c.fault-then-is_reading.result twice c.fault-then-is_reading.ensures

pub source-returns-in-Err-clause-follows : goal.source-returns-in-Err-clause-follows
source-returns-in-Err-clause-follows t c =
    let once : is_reading c.args.reading.now.items c.in-Some.found ≡ false = search rules in
    source_refused c.args.depth c.args.files.now c.args.reading.now.items c.args.file.now c.args.line c.args.path.now c.in_ok-found.field-0 c.in_ok-found.ensures c.in-Some.found c.in-Some.bytes c.in-Some.is c.if-depth-eq0.false once
    (shown c.args.self.now) c.in-Err.error c.in-Err.ensures

pub source-read_sourced-requires : goal.source-read_sourced-requires
source-read_sourced-requires t c =
    (search rules, (c.requires, file_small c.args.files.now c.args.path.now c.in_ok-found.field-0 c.in-Some.found c.in-Some.bytes c.requires c.in_ok-found.ensures c.in-Some.is))

pub source-returns-clause-follows : goal.source-returns-clause-follows
source-returns-clause-follows t c =
    let once : is_reading c.args.reading.now.items c.in-Some.found ≡ false = search rules in
    source_read c.args.depth c.args.files.now c.args.reading.now.items c.args.file.now c.args.line c.args.path.now c.in_ok-found.field-0 c.in_ok-found.ensures c.in-Some.found c.in-Some.bytes c.in-Some.is c.if-depth-eq0.false once
    (shown c.args.self.now) (shown c.count_source.new.self) _ c.read_sourced.result c.in_default-count_source.ensures c.read_sourced.ensures.follows
