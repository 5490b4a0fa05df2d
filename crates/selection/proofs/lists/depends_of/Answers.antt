use Rattle.std.proofs.Common.{Err, rules}
use Rattle.std.proofs.lemmas.Result.{IfOk-weaker}
use Rattle.selection.specs.Lists.{HasDepends, own, derived}
use Rattle.selection.proofs.ListLaws.{err_maps}
use Rattle.selection.proofs.lists.depends_of.Goals as goal

pub returns-then-branch-clause-ok : goal.returns-then-branch-clause-ok
returns-then-branch-clause-ok c = IfOk-weaker _ _ _ (λ list has. derived (search rules) has) c.derived_list.ensures.ok

pub returns-then-branch-clause-err : goal.returns-then-branch-clause-err
returns-then-branch-clause-err c = err_maps _ (λ fault. HasDepends c.args.vars.now c.args.made.now (Err fault)) _ c.derived_list.ensures.err (λ fault has. derived (search rules) has)

pub returns-clause-ok : goal.returns-clause-ok
returns-clause-ok c = IfOk-weaker _ _ _ (λ list has. own (search rules) has) c.list_of.ensures.ok

pub returns-clause-err : goal.returns-clause-err
returns-clause-err c = err_maps _ (λ fault. HasDepends c.args.vars.now c.args.made.now (Err fault)) _ c.list_of.ensures.err (λ fault has. own (search rules) has)
