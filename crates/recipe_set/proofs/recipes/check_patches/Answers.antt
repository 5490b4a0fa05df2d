use Rattle.recipe_set.proofs.recipes.check_patches.Goals as goal

pub returns-in-None-clause-none : goal.returns-in-None-clause-none
returns-in-None-clause-none c = c.in_ok-first_patch.ensures.none c.in-None.is
