use Rattle.std.proofs.Common.{◌≡◌, Ok, Err, rules, subst, sym}
use Rattle.selection.specs.Lists.{HasLists, lists, no_depends, no_extract, no_patch}
use Rattle.selection.proofs.lists.lists_of.Goals as goal

pub returns-in_err-depends-clause-err : goal.returns-in_err-depends-clause-err
returns-in_err-depends-clause-err c =
    let given : c.from_residual.result ≡ Err c.in_err-depends.field-0.0 = search rules in
    rw given (λ some. no_depends _ (c.in_err-depends.ensures.err some))

pub returns-in_err-extract-clause-err : goal.returns-in_err-extract-clause-err
returns-in_err-extract-clause-err c =
    let given : c.from_residual-in_err-extract.result ≡ Err c.in_err-extract.field-0.0 = search rules in
    rw given (λ some. no_extract _ _ c.in_ok-depends.ensures.ok (c.in_err-extract.ensures.err some))

pub returns-in_err-patch-clause-err : goal.returns-in_err-patch-clause-err
returns-in_err-patch-clause-err c =
    let given : c.from_residual-in_err-patch.result ≡ Err c.in_err-patch.field-0.0 = search rules in
    rw given (λ some. no_patch _ _ _ c.in_ok-depends.ensures.ok c.in_ok-extract.ensures.ok (c.in_err-patch.ensures.err some))

pub returns-clause-ok : goal.returns-clause-ok
returns-clause-ok c =
    subst (λ made. HasLists c.args.vars.now c.args.made.now (Ok (record { made = made; depends = c.in_ok-depends.depends; extract = c.in_ok-extract.extract; patch = c.in_ok-patch.patch })))
    (sym c.in_ok-copy_of.ensures) (lists _ _ _ c.in_ok-depends.ensures.ok c.in_ok-extract.ensures.ok c.in_ok-patch.ensures.ok)
