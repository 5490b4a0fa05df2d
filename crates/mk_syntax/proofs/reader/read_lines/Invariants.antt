use Rattle.std.proofs.Common.{◌≡◌, Ok}
use Rattle.std.specs.Vec.Iter.{into_iter_items}
use Rattle.mk_syntax.specs.Reading.{after, start}
use Rattle.mk_syntax.proofs.reader.read_lines.Given as goal

abbrev pub invariant-loop-line : goal.invariant-loop-line
invariant-loop-line l = after l.fn.lines.items (Ok start) ≡ after (into_iter_items l.line-iterator) (Ok l.reader)
