use Rattle.std.proofs.Common.{ℕ, ◌≡◌, ◌↔◌, subst}
use Rattle.std.specs.List.{Contains}
use Rattle.std.proofs.lemmas.Result.{IfOk-weaker}
use Rattle.cycle_walks.specs.Graph.{names, row}
use Rattle.cycle_walks.specs.Walks.{Reaches}
use Rattle.selection.specs.Chains.{ArePlaces, asked_places}
use Rattle.selection.proofs.ChainLaws.{are_places}
use Rattle.selection.proofs.chains.selected_places.Goals as goal

pub returns-clause-places : goal.returns-clause-places
returns-clause-places c =
    let values = c.args.values.now in
    let made = c.args.packages.now in
    let all = c.args.all.now in
    let graph = c.in_ok-graph.graph in
    let facts = c.in_ok-graph.ensures in
    let root = c.in_ok-root.ensures.root in
    IfOk-weaker _ _ (ArePlaces values all)
    (λ places reached.
    are_places values all made c.requires.made c.requires.rising graph (subst (λ k. row graph k ≡ asked_places values 0 made) root facts.asked) facts.lists places
    (subst (λ k. (other : ℕ) → Contains places other ↔ Reaches (names graph) k other) root reached))
    c.reached.ensures.reached
