use Rattle.std.proofs.Common.{rules, arith, ◌≡◌, [], ◌∷◌}
use Rattle.std.proofs.lemmas.List.{nil_from_length}
use Rattle.std.specs.Vec.Iter.{into_iter_items}
use Rattle.recipe_set.proofs.Statements.{next_leads, stop_leads, end_leads}
use Rattle.recipe_set.proofs.reader.read_statements.Goals as goal

pub returns-in-Err-clause-fault : goal.returns-in-Err-clause-fault
returns-in-Err-clause-fault c = λ some.
    let items : into_iter_items c.loop-statement.statement-iterator ≡ c.in-Some.statement ∷ into_iter_items c.next.new.self = search rules in
    stop_leads c.args.folder.now.name c.args.draft c.args.recipe c.loop-statement.reader _ c.in-Some.statement _ c.in-Err.fault c.loop-statement.invariant items (c.in-Err.ensures.1 some)

pub loop-statement-preserved : goal.loop-statement-preserved
loop-statement-preserved c =
    let items : into_iter_items c.loop-statement.statement-iterator ≡ c.in-Some.statement ∷ into_iter_items c.next.new.self = search rules in
    next_leads c.args.folder.now.name c.args.draft c.args.recipe c.loop-statement.reader c.take.new.self _ c.in-Some.statement _ c.loop-statement.invariant items c.in_default.ensures

pub returns-clause-draft : goal.returns-clause-draft
returns-clause-draft c =
    let items : into_iter_items c.loop-statement.statement-iterator ≡ [] = nil_from_length (into_iter_items c.loop-statement.statement-iterator) (omega (arith, c.in-None.ensures.steps.0)) in
    (c.loop-statement.reader.around, end_leads c.args.folder.now.name c.args.draft c.args.recipe c.loop-statement.reader _ c.loop-statement.invariant items)
