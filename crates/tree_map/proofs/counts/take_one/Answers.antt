use Rattle.tree_map.proofs.Tally.{tally-gone}
use Rattle.tree_map.proofs.counts.take_one.Goals as goal

pub returns-else-count-gt1 : goal.returns-else-count-gt1
returns-else-count-gt1 c numbers tally = tally-gone c.args.counts.now c.remove.new.self c.args.label numbers c.count_of-count.result c.count_of-count.ensures tally c.remove.ensures.updates.0 c.if-count-gt1.false
