use Rattle.std.proofs.Common.{◌≡◌, length, sym, subst, ap, arith, Contains}
use Rattle.dep_graph.specs.Needs.{needs_of, IsNeeds, IsAdded}
use Rattle.dep_graph.proofs.Additions.{place_among, not_in_place, added_needs, added}
use Rattle.dep_graph.proofs.graph.Graph.need.Goals as goal

pub invariant_of-self-in-Err : goal.invariant_of-self-in-Err
invariant_of-self-in-Err c =
    let needs = c.self.inside.needs in
    let same : length needs ≡ length c.args.self.now = ap length c.self.view_is in
    let place = place_among needs c.args.task c.args.on c.in-Err.place c.row.result.now c.self.invariant c.row.ensures.row c.in-Err.ensures.position in
    subst IsNeeds (sym c.in_ok-insert-in-Err.ensures.ok) (added_needs needs c.self.invariant c.args.task c.args.on c.in-Err.place (omega arith) place (omega arith))

pub returns-in_ok-insert-in-Err-clause-ok : goal.returns-in_ok-insert-in-Err-clause-ok
returns-in_ok-insert-in-Err-clause-ok c =
    let needs = c.self.inside.needs in
    let same : length needs ≡ length c.args.self.now = ap length c.self.view_is in
    let place = place_among needs c.args.task c.args.on c.in-Err.place c.row.result.now c.self.invariant c.row.ensures.row c.in-Err.ensures.position in
    subst (λ old. IsAdded old c.args.task c.args.on c.insert.new.self) c.self.view_is
    (subst (IsAdded needs c.args.task c.args.on) (sym c.in_ok-insert-in-Err.ensures.ok) (added needs c.self.invariant c.args.task c.args.on c.in-Err.place (omega arith) place))

pub returns-in_ok-insert-in-Err-clause-again : goal.returns-in_ok-insert-in-Err-clause-again
returns-in_ok-insert-in-Err-clause-again c there =
    let needs = c.self.inside.needs in
    let place = place_among needs c.args.task c.args.on c.in-Err.place c.row.result.now c.self.invariant c.row.ensures.row c.in-Err.ensures.position in
    absurd (not_in_place (needs_of needs c.args.task) c.in-Err.place c.args.on place (subst (λ n. Contains (needs_of n c.args.task) c.args.on) (sym c.self.view_is) there))
