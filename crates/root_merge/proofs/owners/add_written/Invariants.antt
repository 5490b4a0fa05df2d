use Rattle.std.proofs.Common.{◌≡◌, drop}
use Rattle.root_merge.specs.Owners.{owners_in, with_written}
use Rattle.root_merge.proofs.owners.add_written.Given as goal

-- the pairs that are left add up to the same as all of them
abbrev pub invariant-loop-area : goal.invariant-loop-area
invariant-loop-area g l =
    with_written (g.T.TreeOps.tree l.tree) l.task (drop l.area-index l.written) (owners_in l.owners) ≡ with_written (g.T.TreeOps.tree l.tree) l.task l.written (owners_in l.fn.owners)
