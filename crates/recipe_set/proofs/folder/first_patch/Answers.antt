use Rattle.std.proofs.Common.{◌≤◌, length, subst}
use Rattle.std.specs.Prelude.{All}
use Rattle.std.proofs.lemmas.List.{take_all}
use Rattle.recipe_set.specs.Found.{told, IsFirstPatchOf}
use Rattle.recipe_set.proofs.Patches.{HasNoPatch}
use Rattle.recipe_set.proofs.FoundPatches.{found_first, none_more, none_found, some_is}
use Rattle.recipe_set.proofs.folder.first_patch.Goals as goal

pub returns-in-Some-clause-some : goal.returns-in-Some-clause-some
returns-in-Some-clause-some c =
    found_first c.args.files.now c.args.recipes.now c.requires.recipes c.requires.found c.loop-recipe.recipe-index c.recipe-item.result c.loop-recipe-test.true c.recipe-item.is c.in-Some.patch c.loop-recipe.invariant
    (some_is (IsFirstPatchOf c.args.files.now c.recipe-item.result.folder.path) c.in_ok-patch.field-0 c.in-Some.patch c.in-Some.is c.in_ok-patch.ensures.some)

pub loop-recipe-preserved : goal.loop-recipe-preserved
loop-recipe-preserved c =
    none_more c.args.files.now c.args.recipes.now c.requires.recipes c.requires.found c.loop-recipe.recipe-index c.recipe-item.result c.loop-recipe-test.true c.recipe-item.is (c.in_ok-patch.ensures.none c.in_default.is) c.loop-recipe.invariant

pub returns-clause-none : goal.returns-clause-none
returns-clause-none c = λ _.
    let all : length c.args.recipes.now ≤ c.loop-recipe.recipe-index = c.loop-recipe-test.false in
    none_found c.args.files.now c.args.recipes.now c.requires.recipes (subst (All (λ r. HasNoPatch c.args.files.now (told r))) (take_all c.loop-recipe.recipe-index c.args.recipes.now all) c.loop-recipe.invariant)
