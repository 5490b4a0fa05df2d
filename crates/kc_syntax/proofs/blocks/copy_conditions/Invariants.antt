use Rattle.std.proofs.Common.{◌≡◌, ◌++◌, take}
use Rattle.kc_syntax.proofs.blocks.copy_conditions.Given as goal

abbrev pub invariant-loop-condition : goal.invariant-loop-condition
invariant-loop-condition l = l.to.items ≡ l.initial.to.items ++ take l.condition-index l.from
