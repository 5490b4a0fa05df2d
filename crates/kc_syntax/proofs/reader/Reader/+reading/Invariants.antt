use Rattle.std.proofs.Common.{◌≡◌, ◌+◌, ◌*◌, drop, flat_map}
use Rattle.kc_syntax.specs.Events.{source_events, line_events}
use Rattle.kc_syntax.specs.Reading.{run}
use Rattle.kc_syntax.specs.Shown.{shown}
use Rattle.kc_syntax.proofs.reader.Reader.+reading.Given as goal

abbrev pub decreases-read_file : goal.decreases-read_file
decreases-read_file l = 6 * l.depth + 4

abbrev pub decreases-read_lines : goal.decreases-read_lines
decreases-read_lines l = 6 * l.depth + 3

abbrev pub decreases-read_line : goal.decreases-read_line
decreases-read_line l = 6 * l.depth + 2

abbrev pub decreases-read_row : goal.decreases-read_row
decreases-read_row l = 6 * l.depth + 1

abbrev pub decreases-source : goal.decreases-source
decreases-source l = 6 * l.depth

abbrev pub decreases-read_sourced : goal.decreases-read_sourced
decreases-read_sourced l = 6 * l.depth + 5

-- the lines that are left lead to where all do
abbrev pub invariant-read_lines-loop-line : goal.invariant-read_lines-loop-line
invariant-read_lines-loop-line l = record {
  follows : run (flat_map (line_events (source_events l.depth l.files l.initial.reading.items) l.file) (drop l.line-index l.lines)) (shown l.self) ≡ run (flat_map (line_events (source_events l.depth l.files l.initial.reading.items) l.file) l.lines) (shown l.initial.self);
  reading : l.reading.items ≡ l.initial.reading.items;
}
