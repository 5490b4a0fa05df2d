use Rattle.std.proofs.Common.{◌≡◌, ◌++◌, length}
use Rattle.std.specs.List.{join_with_byte}
use Rattle.build_report.proofs.lines.push_joined.Given as goal

-- what is left completes the text
abbrev pub invariant-loop-name : goal.invariant-loop-name
invariant-loop-name l = l.text.items ++ join_with_byte l.between l.rest ≡ l.initial.text.items ++ join_with_byte l.between l.names

abbrev pub decreases-loop-name : goal.decreases-loop-name
decreases-loop-name l = length l.rest
