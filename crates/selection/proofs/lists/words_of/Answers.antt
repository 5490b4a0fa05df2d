use Rattle.std.proofs.Common.{rules}
use Rattle.selection.proofs.ListLaws.{list_value, list_fault}
use Rattle.selection.proofs.lists.words_of.Goals as goal

pub returns-in_ok-words-in-Ok-clause-ok : goal.returns-in_ok-words-in-Ok-clause-ok
returns-in_ok-words-in-Ok-clause-ok c =
    list_value c.args.vars.now c.args.owner.now c.args.variable _ _ _ _ c.in-Ok.ensures.value (search rules) (search rules) (search rules)

pub returns-in-Err-clause-err : goal.returns-in-Err-clause-err
returns-in-Err-clause-err c =
    list_fault c.args.vars.now c.args.owner.now c.args.variable _ _ _ _ c.in-Err.ensures.fault (search rules) (search rules) c.list_fault.ensures.fault c.list_fault.ensures.memory
