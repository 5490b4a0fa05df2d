use Rattle.std.proofs.Common.{rules, ap, ◌∙◌}
use Rattle.std.specs.List.{find}
use Rattle.selection.specs.Selected.{is_unknown, is_unselected}
use Rattle.selection.specs.Selecting.{unknown, not_selected}
use Rattle.selection.proofs.CheckLaws.{are_closed, pair_found}
use Rattle.selection.proofs.select.check_lists.Goals as goal

pub returns-in-Some-clause-err : goal.returns-in-Some-clause-err
returns-in-Some-clause-err c =
    let of_all = ap (find (is_unknown c.args.made.now)) (c.as_slice.ensures ∙ c.in_ok-listings.ensures) in
    λ some. unknown _ _ (pair_found c.first_unknown.result _ c.in-Some.owner c.in-Some.name _ _ (c.first_unknown.ensures ∙ of_all) c.in-Some.is c.in_ok-listing.ensures.0 c.in_ok-listing.ensures.1)

pub returns-in-Some-first_unselected-clause-err : goal.returns-in-Some-first_unselected-clause-err
returns-in-Some-first_unselected-clause-err c =
    let of_all = ap (find (is_unselected c.args.made.now c.args.chosen.now)) (c.as_slice-2.ensures ∙ c.in_ok-listings.ensures) in
    λ some. not_selected _ _ (search rules)
    (pair_found c.first_unselected.result _ c.in-Some-first_unselected.owner c.in-Some-first_unselected.name _ _ (c.first_unselected.ensures ∙ of_all) c.in-Some-first_unselected.is
    c.in_ok-listing-2.ensures.0 c.in_ok-listing-2.ensures.1)

pub returns-clause-closed : goal.returns-clause-closed
returns-clause-closed c = are_closed c.args.made.now c.args.chosen.now c.requires.hosts (search rules) (search rules)
