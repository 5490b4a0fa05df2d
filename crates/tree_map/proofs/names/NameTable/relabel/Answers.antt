use Rattle.tree_map.proofs.Tally.{few-counted, tally-relabelled}
use Rattle.tree_map.proofs.names.NameTable.relabel.Goals as goal

pub count_moved-requires-clause-few : goal.count_moved-requires-clause-few
count_moved-requires-clause-few c = few-counted c.self.inside.names c.self.inside.counts c.len-names.result c.len-names.ensures.len c.len-names.ensures.small c.len-names.ensures.ordered c.self.invariant

pub invariant_of-self-2 : goal.invariant_of-self-2
invariant_of-self-2 c =
    tally-relabelled c.self.inside.names c.relabel.new.names c.args.from c.args.to c.count_moved.new.counts c.requires c.relabel.ensures (c.in_ok-count_moved.ensures.ok _ c.self.invariant)
