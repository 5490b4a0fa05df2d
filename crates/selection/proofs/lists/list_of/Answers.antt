use Rattle.std.proofs.Common.{◌≡◌, Err, rules}
use Rattle.selection.specs.Lists.{distinct}
use Rattle.selection.proofs.ListLaws.{list_becomes, list_fails}
use Rattle.selection.proofs.lists.list_of.Goals as goal

pub returns-in_err-words-clause-err : goal.returns-in_err-words-clause-err
returns-in_err-words-clause-err c =
    let given : c.from_residual-in_err-words.result ≡ Err c.in_err-words.field-0.0 = search rules in
    rw given (λ some. list_fails c.args.vars.now c.args.made.now.name distinct _ _ _ (c.in_err-words.ensures.err some) (search rules))

pub returns-clause-ok : goal.returns-clause-ok
returns-clause-ok c = list_becomes c.args.vars.now c.args.made.now.name distinct _ _ _ _ c.in_ok-words.ensures.ok (search rules) (search rules)
