use Rattle.std.proofs.Common.{◌≡◌, ◌+◌, ◌<◌, ◌^◌, ◌++◌, length}
use Rattle.std.specs.Option.{option_copied}
use Rattle.mk_syntax.specs.Lines.{joined_lines, lines_from, raw_behind}
use Rattle.mk_syntax.proofs.lines.joined_lines.Given as goal

abbrev pub invariant-loop-rest : goal.invariant-loop-rest
invariant-loop-rest l = record {
  lines : joined_lines l.text ≡ l.lines.items ++ lines_from l.start l.number l.line.items (raw_behind (option_copied l.rest));
  numbers : l.number + length (raw_behind (option_copied l.rest)) < 2 ^ 32;
}

abbrev pub decreases-loop-rest : goal.decreases-loop-rest
decreases-loop-rest l = length (raw_behind (option_copied l.rest))
