use Rattle.std.proofs.Common.{◌≡◌, sym, ap, subst, ◌∙◌, arith}
use Rattle.std.specs.List.Sorted.{IsStrictlyIncreasing}
use Rattle.std.proofs.lemmas.List.{take_all}
use Rattle.recipe_plan.proofs.PackageLaws.{ArePreps, preps_of, preps_rise, preps_are}
use Rattle.recipe_plan.proofs.packages.preps.Goals as goal

pub returns-clause-rising : goal.returns-clause-rising
returns-clause-rising c =
    let own = c.args.own in
    let places = c.args.places.now in
    let is : c.loop-place.tasks.items ≡ preps_of own places = c.loop-place.invariant ∙ ap (preps_of own) (take_all c.loop-place.place-index places (omega arith)) in
    subst IsStrictlyIncreasing (sym is) (preps_rise own places c.requires.rising)

pub returns-clause-preps : goal.returns-clause-preps
returns-clause-preps c =
    let own = c.args.own in
    let places = c.args.places.now in
    let is : c.loop-place.tasks.items ≡ preps_of own places = c.loop-place.invariant ∙ ap (preps_of own) (take_all c.loop-place.place-index places (omega arith)) in
    subst (ArePreps own places) (sym is) (preps_are own places)
