use Rattle.std.proofs.Common.{ℕ, subst, MatchOption}
use Rattle.cycle_walks.specs.Graph.{names}
use Rattle.cycle_walks.specs.Walks.{OnCycle, IsLeast}
use Rattle.dep_graph.proofs.graph.Graph.order.Goals as goal

pub least_first-requires : goal.least_first-requires
least_first-requires c =
    let on = λ (task : ℕ). OnCycle (names c.self.inside.needs) task in
    let none = subst (λ o. MatchOption o ((task : ℕ) → ¬ (on task)) (IsLeast on)) c.in_default.is c.in_ok-task.ensures in
    subst (λ needs. (task : ℕ) → ¬ (OnCycle (names needs) task)) c.self.view_is none
