use Rattle.std.proofs.Common.{◌≡◌, None, Err, rules, subst, sym}
use Rattle.std.specs.List.{find}
use Rattle.selection.specs.Selected.{AreClosed, AreSelected, HaveHosts, is_unknown, is_unselected, listings}
use Rattle.selection.specs.Selecting.{IsChecked, IsSelecting}
use Rattle.selection.proofs.CheckLaws.{checked_few, if_ok_of, if_err_of, without_recipe, without_list, with_lists}
use Rattle.selection.proofs.select.select_packages.Goals as goal

pub returns-in_err-check_recipes-clause-err : goal.returns-in_err-check_recipes-clause-err
returns-in_err-check_recipes-clause-err c =
    let given : c.from_residual.result ≡ Err c.in_err-check_recipes.field-0.0 = search rules in
    rw given (λ some. without_recipe c.args.files.now c.args.values.now c.args.recipes.now c.args.recipes.now.vars c.as_slice-made.result.now (search rules) (search rules) _ (c.in_err-check_recipes.ensures.err some))

pub returns-in_err-all-clause-err : goal.returns-in_err-all-clause-err
returns-in_err-all-clause-err c =
    let given : c.from_residual-in_err-all.result ≡ Err c.in_err-all.field-0.0 = search rules in
    rw given (λ some. without_list c.args.files.now c.args.values.now c.args.recipes.now c.recipes.inside.0.0 c.as_slice-made.result.now (search rules) (search rules) _ c.in_ok-check_recipes.ensures.ok (c.in_err-all.ensures.err some))

pub check_lists-requires-clause-hosts : goal.check_lists-requires-clause-hosts
check_lists-requires-clause-hosts c = subst (HaveHosts c.as_slice-made.result.now) (sym c.as_slice-2.ensures.value) c.in_ok-chosen.ensures.hosts

pub few-requires-clause-closed : goal.few-requires-clause-closed
few-requires-clause-closed c = subst AreClosed c.as_slice-2.ensures.value c.in_ok-check_lists.ensures.closed

pub returns-in_err-check_lists-clause-err : goal.returns-in_err-check_lists-clause-err
returns-in_err-check_lists-clause-err c =
    let given : c.from_residual-in_err-check_lists.result ≡ Err c.in_err-check_lists.field-0.0 = search rules in
    rw given (λ some.
    with_lists c.args.files.now c.args.values.now c.args.recipes.now c.recipes.inside.0.0 c.as_slice-made.result.now (search rules) (search rules) c.in_ok-all.all.items c.in_ok-chosen.chosen.items _
    c.in_ok-check_recipes.ensures.ok c.in_ok-all.ensures.ok (subst (λ all. AreSelected c.args.values.now all c.in_ok-chosen.chosen.items) c.as_slice.ensures.value c.in_ok-chosen.ensures.chosen)
    (subst (λ chosen. IsChecked c.as_slice-made.result.now chosen (Err c.in_err-check_lists.field-0.0)) c.as_slice-2.ensures.value (c.in_err-check_lists.ensures.err some)))

pub returns-clause-ok : goal.returns-clause-ok
returns-clause-ok c =
    let files = c.args.files.now in
    let values = c.args.values.now in
    let recipes = c.args.recipes.now in
    let made = c.as_slice-made.result.now in
    let chosen = c.in_ok-chosen.chosen.items in
    let shown = c.as_slice-2.ensures.value in
    if_ok_of (IsSelecting files values recipes) c.few.result
    (with_lists files values recipes c.recipes.inside.0.0 made (search rules) (search rules) c.in_ok-all.all.items chosen _
    c.in_ok-check_recipes.ensures.ok c.in_ok-all.ensures.ok (subst (λ all. AreSelected values all chosen) c.as_slice.ensures.value c.in_ok-chosen.ensures.chosen)
    (subst (IsChecked made chosen) (sym c.few.ensures) (checked_few made chosen
    (subst (λ listed. find (is_unknown made) (listings listed) ≡ None) shown c.in_ok-check_lists.ensures.known)
    (subst (λ listed. find (is_unselected made listed) (listings listed) ≡ None) shown c.in_ok-check_lists.ensures.selected))))

pub returns-clause-err : goal.returns-clause-err
returns-clause-err c =
    let files = c.args.files.now in
    let values = c.args.values.now in
    let recipes = c.args.recipes.now in
    let made = c.as_slice-made.result.now in
    let chosen = c.in_ok-chosen.chosen.items in
    let shown = c.as_slice-2.ensures.value in
    if_err_of (IsSelecting files values recipes) c.few.result
    (with_lists files values recipes c.recipes.inside.0.0 made (search rules) (search rules) c.in_ok-all.all.items chosen _
    c.in_ok-check_recipes.ensures.ok c.in_ok-all.ensures.ok (subst (λ all. AreSelected values all chosen) c.as_slice.ensures.value c.in_ok-chosen.ensures.chosen)
    (subst (IsChecked made chosen) (sym c.few.ensures) (checked_few made chosen
    (subst (λ listed. find (is_unknown made) (listings listed) ≡ None) shown c.in_ok-check_lists.ensures.known)
    (subst (λ listed. find (is_unselected made listed) (listings listed) ≡ None) shown c.in_ok-check_lists.ensures.selected))))
