use Rattle.tree_map.proofs.Tally.{tally-moved}
use Rattle.tree_map.proofs.counts.count_moved.Goals as goal

pub returns-in_ok-insert-clause-ok : goal.returns-in_ok-insert-clause-ok
returns-in_ok-insert-clause-ok c numbers tally =
    tally-moved c.args.counts.now c.args.from c.args.to numbers c.count_of-count.result c.requires.apart c.count_of-count.ensures tally c.insert.new.self c.remove.new.self c.count_of.result c.count_of.ensures
    c.if-count-gt0.true c.in_ok-insert.ensures.updates.0 c.remove.ensures.updates.0
