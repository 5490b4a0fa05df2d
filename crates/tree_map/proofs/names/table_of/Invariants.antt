use Rattle.std.proofs.Common.{◌≡◌, length}
use Rattle.std.specs.FinMap as fin
use Rattle.tree_map.proofs.Built.{laid_on}
use Rattle.tree_map.proofs.names.table_of.Given as goal

-- what is left, on what there is, makes the whole
abbrev pub invariant-loop-at : goal.invariant-loop-at
invariant-loop-at l = laid_on l.pairs.items l.table ≡ fin.from_entries l.fn.pairs.items

abbrev pub decreases-loop-at : goal.decreases-loop-at
decreases-loop-at l = length l.pairs.items
