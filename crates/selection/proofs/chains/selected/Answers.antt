use Rattle.std.proofs.Common.{subst, sym}
use Rattle.std.proofs.lemmas.Result.{IfOk-weaker}
use Rattle.selection.specs.Selected.{AreSelected, HaveHosts}
use Rattle.selection.proofs.PickLaws.{all_rise, are_selected, have_hosts}
use Rattle.selection.proofs.chains.selected.Goals as goal

pub returns-clause-chosen : goal.returns-clause-chosen
returns-clause-chosen c =
    let values = c.args.values.now in
    let all = c.args.all.now in
    let facts = c.in_ok-places.ensures in
    let rising = all_rise all c.args.packages.now c.requires.made c.requires.rising in
    IfOk-weaker _ _ (λ chosen. AreSelected values all chosen.items)
    (λ chosen is. subst (AreSelected values all) (sym is) (are_selected values all c.in_ok-places.places rising facts.rising facts.places))
    c.picked.ensures

pub returns-clause-hosts : goal.returns-clause-hosts
returns-clause-hosts c =
    let made = c.args.packages.now in
    IfOk-weaker _ _ (λ chosen. HaveHosts made chosen.items)
    (λ chosen are. have_hosts c.args.values.now c.args.all.now made chosen.items c.requires.made are)
    (returns-clause-chosen c)
