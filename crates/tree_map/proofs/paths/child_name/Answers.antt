use Rattle.std.proofs.Common.{sym, ◌∙◌}
use Rattle.std.proofs.lemmas.List.{nil_from_length}
use Rattle.tree_map.proofs.Below.{child-none, child-some, child-root}
use Rattle.tree_map.proofs.paths.child_name.Goals as goal

pub returns-in-None : goal.returns-in-None
returns-in-None c = child-root c.args.at.now c.args.path.now (sym c.names.ensures.names ∙ nil_from_length _ c.in-None.ensures.cases)

pub returns-then-are_same : goal.returns-then-are_same
returns-then-are_same c =
    child-some c.args.at.now c.args.path.now c.in-Some.folder.now c.in-Some.name.now c.names-in-Some.result.now c.are_same.result
    (sym c.names.ensures.names ∙ c.in-Some.ensures.cases.0) c.names-in-Some.ensures.names c.are_same.ensures c.if-are_same.true c.names.ensures.path

pub returns-else-are_same : goal.returns-else-are_same
returns-else-are_same c =
    child-none c.args.at.now c.args.path.now c.in-Some.folder.now c.in-Some.name.now c.names-in-Some.result.now c.are_same.result
    (sym c.names.ensures.names ∙ c.in-Some.ensures.cases.0) c.names-in-Some.ensures.names c.are_same.ensures c.if-are_same.false
