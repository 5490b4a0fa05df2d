use Rattle.std.proofs.Common.{◌≡◌, ◌++◌, take}
use Rattle.std.specs.Prelude.{flat_map}
use Rattle.build_report.specs.Plans.{need_text}
use Rattle.build_report.proofs.plans.push_needs.Given as goal

-- the tasks so far stand after what was there
abbrev pub invariant-loop-need : goal.invariant-loop-need
invariant-loop-need l = l.items.items ≡ l.initial.items.items ++ flat_map (need_text l.plan) (take l.need-index l.need-items)
