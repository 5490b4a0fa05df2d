use Rattle.std.proofs.Common.{ℕ, ◌↔◌, subst, Contains, IfOk}
use Rattle.cycle_walks.specs.Graph.{names}
use Rattle.cycle_walks.specs.Walks.{Reaches}
use Rattle.dep_graph.proofs.graph.Graph.recursive.Goals as goal

pub returns-clause-reached : goal.returns-clause-reached
returns-clause-reached c =
    subst (λ needs. IfOk c.reached.result (λ tasks. (other : ℕ) → Contains tasks other ↔ Reaches (names needs) c.args.task other)) c.self.view_is c.reached.ensures.reached
