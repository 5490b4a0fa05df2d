use Rattle.std.proofs.Common.{◌≡◌, take, flat_map}
use Rattle.kc_syntax.proofs.blocks.conditions_of.Given as goal

abbrev pub invariant-loop-inner : goal.invariant-loop-inner
invariant-loop-inner l = l.items.items ≡ flat_map (λ open_block. open_block.conditions) (take l.inner-index l.blocks)
