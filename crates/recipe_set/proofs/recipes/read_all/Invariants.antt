use Rattle.std.proofs.Common.{take}
use Rattle.recipe_set.specs.Forms.{AreFormsOf}
use Rattle.recipe_set.proofs.AllRecipes.{folders, Leads}
use Rattle.recipe_set.proofs.recipes.read_all.Given as goal

abbrev pub invariant-loop-recipe : goal.invariant-loop-recipe
invariant-loop-recipe l = AreFormsOf (folders (take l.recipe-index l.recipes)) l.forms × Leads l.recipes l.fn.draft l.recipe-index l.draft
