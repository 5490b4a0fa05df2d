use Rattle.std.proofs.Common.{◌≡◌, drop}
use Rattle.root_merge.specs.Found.{all_noted}
use Rattle.root_merge.proofs.writers.Writers.add_all.Given as goal

-- those to come lead to the same as all did at first
abbrev pub invariant-loop-one : goal.invariant-loop-one
invariant-loop-one l = all_noted l.area l.make (drop l.one-index l.one-items) l.self ≡ all_noted l.area l.make l.one-items l.initial.self
