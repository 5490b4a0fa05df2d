use Rattle.std.proofs.Common.{◌≡◌, ◌++◌, take}
use Rattle.std.specs.Prelude.{flat_map}
use Rattle.build_report.specs.Builds.{selected_line}
use Rattle.build_report.proofs.builds.push_forced.Given as goal

-- the symbols so far stand after what was there
abbrev pub invariant-loop-symbol : goal.invariant-loop-symbol
invariant-loop-symbol l = l.items.items ≡ l.initial.items.items ++ flat_map selected_line (take l.symbol-index l.symbol-items)
