use Rattle.std.proofs.Common.{◌<◌, length, sym, subst}
use Rattle.std.specs.List.{All}
use Rattle.cycle_walks.proofs.Sights.{row_below}
use Rattle.dep_graph.proofs.graph.Graph.needs.Goals as goal

pub returns-clause-tasks : goal.returns-clause-tasks
returns-clause-tasks c =
    let needs = c.self.inside.needs in
    subst (λ n. All (λ need. need < length n) c.row.result.now) c.self.view_is
    (subst (All (λ need. need < length needs)) (sym c.row.ensures.row) (row_below needs c.row.ensures.graph c.args.task))
