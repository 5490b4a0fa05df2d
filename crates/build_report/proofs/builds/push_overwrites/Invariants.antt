use Rattle.std.proofs.Common.{◌≡◌, ◌++◌, take}
use Rattle.std.specs.Prelude.{flat_map}
use Rattle.build_report.specs.Builds.{overwrite_line}
use Rattle.build_report.proofs.builds.push_overwrites.Given as goal

-- the paths so far stand after what was there
abbrev pub invariant-loop-overwrite : goal.invariant-loop-overwrite
invariant-loop-overwrite l = l.items.items ≡ l.initial.items.items ++ flat_map overwrite_line (take l.overwrite-index l.overwrite-items)
