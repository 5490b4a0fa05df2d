use Rattle.std.proofs.Common.{[], ◌≡◌, ◌∙◌, ap, arith, length}
use Rattle.std.specs.List.{insert}
use Rattle.std.proofs.lemmas.List.{get_or_default}
use Rattle.cycle_walks.proofs.Members.{IsGraph-insert}
use Rattle.cycle_walks.proofs.graph.Graph.insert.Goals as goal

pub invariant_of-self-2 : goal.invariant_of-self-2
invariant_of-self-2 c =
    let rows = c.self.inside.rows.items in
    let same : length rows ≡ length c.args.self.now = ap length c.self.view_is in
    let row = c.behind-self.view_is ∙ c.index_mut.ensures.value ∙ get_or_default rows c.args.node c.index_mut.result.now [] (omega arith) in
    IsGraph-insert rows c.args.node c.args.place c.args.other c.insert.new.self.items c.self.invariant (omega arith) (omega arith)
    (c.in_ok-insert.ensures.items ∙ ap (λ xs. insert xs c.args.place c.args.other) row)
