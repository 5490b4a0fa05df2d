use Rattle.std.proofs.Common.{map, sym, ◌∙◌, subst}
use Rattle.recipe_set.specs.Reading.{AreRecipes}
use Rattle.recipe_set.specs.Found.{told}
use Rattle.recipe_set.proofs.Listing.{none_listed}
use Rattle.recipe_set.proofs.folder.recipe_files.Goals as goal

pub returns-then-len-eq0-clause-recipes : goal.returns-then-len-eq0-clause-recipes
returns-then-len-eq0-clause-recipes c =
    subst (λ recipes. AreRecipes c.args.files.now (map told recipes)) (sym c.new.ensures.items) (none_listed c.args.files.now (sym c.len.ensures.len ∙ c.if-len-eq0.true))
