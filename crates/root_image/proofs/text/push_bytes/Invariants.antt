use Rattle.std.proofs.Common.{◌≡◌, ◌++◌, map, length}
use Rattle.root_image.specs.Lines.{BytesLine, lines_text, pieces}
use Rattle.root_image.proofs.text.push_bytes.Given as goal

-- the lines so far and those of what is left are all lines
abbrev pub invariant-loop-rest : goal.invariant-loop-rest
invariant-loop-rest l = l.text.items ++ lines_text (map BytesLine (pieces l.rest)) ≡ l.fn.text.items ++ lines_text (map BytesLine (pieces l.bytes))

abbrev pub decreases-loop-rest : goal.decreases-loop-rest
decreases-loop-rest l = length l.rest
