use Rattle.std.proofs.Common.{sym, subst, ap, ◌∙◌, ◌↔◌, Contains}
use Rattle.std.specs.List.Sorted.{IsStrictlyIncreasing}
use Rattle.cycle_walks.specs.Graph.{names}
use Rattle.cycle_walks.specs.Reach.{seen_nodes}
use Rattle.cycle_walks.specs.Walks.{Reaches}
use Rattle.cycle_walks.proofs.Sights.{nodes_rise, nodes_seen}
use Rattle.cycle_walks.proofs.reach.reached.Goals as goal

pub returns-clause-rising : goal.returns-clause-rising
returns-clause-rising c = subst IsStrictlyIncreasing (sym c.in_ok-seen_nodes.ensures) (nodes_rise c.as_slice.result.now)

pub returns-clause-reached : goal.returns-clause-reached
returns-clause-reached c other =
    let seen = c.in_ok-seen.seen.items in
    let listed = nodes_seen seen other in
    let reached = c.in_ok-seen.ensures.reached other in
    subst (λ nodes. Contains nodes other ↔ Reaches (names c.args.graph.now) c.args.node other) (sym (c.in_ok-seen_nodes.ensures ∙ ap seen_nodes c.as_slice.ensures.value))
    (λ there. reached.0 (listed.0 there), λ reach. listed.1 (reached.1 reach))
