use Rattle.tree_map.proofs.Tally.{tally-empty}
use Rattle.tree_map.proofs.names.NameTable.new.Goals as goal

pub invariant_of-result : goal.invariant_of-result
invariant_of-result c = tally-empty c.new.result c.new-2.result c.new.ensures.empty c.new.ensures.ordered c.new-2.ensures.empty
