use Rattle.std.proofs.Common.{◌≡◌, length}
use Rattle.std.specs.FinMap as fin
use Rattle.tree_map.specs.Parts.{labels_of}
use Rattle.tree_map.proofs.Built.{laid_on}
use Rattle.tree_map.proofs.labels.labels_from.Given as goal

-- what is left, on what there is, makes the whole
abbrev pub invariant-loop-label : goal.invariant-loop-label
invariant-loop-label l = laid_on l.pairs.items (labels_of l.labels) ≡ fin.from_entries l.fn.pairs.items

abbrev pub decreases-loop-label : goal.decreases-loop-label
decreases-loop-label l = length l.pairs.items
