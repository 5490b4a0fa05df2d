use Rattle.std.proofs.Common.{ℕ, MatchOption, subst}
use Rattle.cycle_walks.specs.Graph.{names}
use Rattle.cycle_walks.specs.Walks.{OnCycle, IsLeast}
use Rattle.kc_solve.proofs.sequence.least_node.Goals as goal

pub returns-in-Some-clause-node : goal.returns-in-Some-clause-node
returns-in-Some-clause-node c =
    let on : ℕ → Type 0 = OnCycle (names c.args.graph.now) in
    (subst (λ o. MatchOption o ((node : ℕ) → ¬ (on node)) (IsLeast on)) c.in-Some.is c.in_ok-least.ensures).below c.args.node c.requires.cycle

pub returns-in-None-clause-least : goal.returns-in-None-clause-least
returns-in-None-clause-least c =
    let on : ℕ → Type 0 = OnCycle (names c.args.graph.now) in
    absurd ((subst (λ o. MatchOption o ((node : ℕ) → ¬ (on node)) (IsLeast on)) c.in-None.is c.in_ok-least.ensures) c.args.node c.requires.cycle)
