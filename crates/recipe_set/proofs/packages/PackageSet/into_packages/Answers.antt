use Rattle.std.proofs.Common.{◌≡◌, rules, sym, ◌∙◌}
use Rattle.recipe_set.proofs.Places.{packages_rise}
use Rattle.recipe_set.proofs.packages.PackageSet.into_packages.Goals as goal

pub returns-clause-rising : goal.returns-clause-rising
returns-clause-rising c =
    let all : c.loop-name.items.items ≡ c.args.self = search rules in
    packages_rise c.self.inside.places c.loop-name.items.items c.self.invariant (c.self.view_is ∙ sym all)
