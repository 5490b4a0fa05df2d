use Rattle.std.proofs.Common.{◌≡◌, Err, ◌∙◌, ap, rules}
use Rattle.std.specs.Prelude.{codes}
use Rattle.selection.specs.Lists.{distinct, taken_over, variable_of}
use Rattle.selection.proofs.ListLaws.{list_becomes, list_fails}
use Rattle.selection.proofs.lists.derived_list.Goals as goal

pub returns-in_err-words-clause-err : goal.returns-in_err-words-clause-err
returns-in_err-words-clause-err c =
    let given : c.from_residual-in_err-words.result ≡ Err c.in_err-words.field-0.0 = search rules in
    rw given (λ some. list_fails c.args.vars.now c.args.made.now.name (λ words. distinct (taken_over c.args.made.now.name words)) _ _ _ (c.in_err-words.ensures.err some) (c.in_ok-variable.ensures ∙ ap (λ n. variable_of n (codes "_DEPENDENCIES")) c.folder_name.ensures))

pub returns-clause-ok : goal.returns-clause-ok
returns-clause-ok c =
    list_becomes c.args.vars.now c.args.made.now.name (λ words. distinct (taken_over c.args.made.now.name words)) _ _ _ _ c.in_ok-words.ensures.ok (c.in_ok-variable.ensures ∙ ap (λ n. variable_of n (codes "_DEPENDENCIES")) c.folder_name.ensures) (search rules)
