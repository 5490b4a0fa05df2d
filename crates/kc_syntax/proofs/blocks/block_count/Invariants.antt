use Rattle.std.proofs.Common.{◌≡◌, ◌≤◌, take}
use Rattle.std.specs.Prelude.{count_by}
use Rattle.kc_syntax.specs.State.{is_block}
use Rattle.kc_syntax.proofs.blocks.block_count.Given as goal

abbrev pub invariant-loop-inner : goal.invariant-loop-inner
invariant-loop-inner l = (l.count ≡ count_by is_block (take l.inner-index l.blocks)) × (l.count ≤ l.inner-index)
