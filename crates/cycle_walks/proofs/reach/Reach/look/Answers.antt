use Rattle.std.proofs.Common.{sym, subst, ◌<◌, length}
use Rattle.std.specs.List.{All}
use Rattle.cycle_walks.proofs.Sights.{row_below}
use Rattle.cycle_walks.proofs.reach.Reach.look.Goals as goal

pub see_all-requires : goal.see_all-requires
see_all-requires c =
    subst (λ n. All (λ other. other < n) c.row.result.now) (sym c.requires.sized)
    (subst (All (λ other. other < length c.args.graph.now)) (sym c.row.ensures.row) (row_below c.args.graph.now c.row.ensures.graph c.args.node))
