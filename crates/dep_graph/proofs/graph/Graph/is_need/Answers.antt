use Rattle.std.proofs.Common.{◌≡◌, true, false, sym, subst}
use Rattle.cycle_walks.specs.Graph.{is_in}
use Rattle.cycle_walks.proofs.Members.{is_in-none}
use Rattle.dep_graph.proofs.Additions.{found_in, place_of, not_in_place}
use Rattle.dep_graph.proofs.graph.Graph.is_need.Goals as goal

pub returns-in-Ok : goal.returns-in-Ok
returns-in-Ok c =
    let needs = c.needs.result.now in
    sym (subst (λ xs. is_in xs c.args.on ≡ true) c.needs.ensures.needs (found_in needs c.args.on c.in-Ok.field-0 c.needs.ensures.rising c.in-Ok.ensures.position))

pub returns-in-Err : goal.returns-in-Err
returns-in-Err c =
    let needs = c.needs.result.now in
    let place = place_of needs c.args.on c.in-Err.field-0 c.needs.ensures.rising c.in-Err.ensures.position in
    sym (subst (λ xs. is_in xs c.args.on ≡ false) c.needs.ensures.needs (is_in-none needs c.args.on (not_in_place needs c.in-Err.field-0 c.args.on place)))
