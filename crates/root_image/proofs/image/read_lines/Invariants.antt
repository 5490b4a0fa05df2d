use Rattle.std.proofs.Common.{◌≡◌, ◌+◌, length}
use Rattle.root_image.specs.Reading.{lines_of, start}
use Rattle.root_image.specs.Reader.{read_by, read_step, state_of}
use Rattle.root_image.proofs.image.read_lines.Given as goal

-- what is left is read to the same answer, and the lines so far are counted
abbrev pub invariant-loop-line : goal.invariant-loop-line
invariant-loop-line l = record {
  answer : read_by read_step (state_of l.reader) l.number (lines_of l.rest) ≡ read_by read_step start 1 (lines_of l.text);
  counted : l.number + length (lines_of l.rest) ≡ 1 + length (lines_of l.text);
}

abbrev pub decreases-loop-line : goal.decreases-loop-line
decreases-loop-line l = length l.rest
