use Rattle.std.proofs.Common.{take}
use Rattle.std.specs.Prelude.{All}
use Rattle.recipe_set.specs.Found.{told}
use Rattle.recipe_set.proofs.Patches.{HasNoPatch}
use Rattle.recipe_set.proofs.folder.first_patch.Given as goal

-- no folder so far has a patch
abbrev pub invariant-loop-recipe : goal.invariant-loop-recipe
invariant-loop-recipe l = All (λ recipe. HasNoPatch l.files (told recipe)) (take l.recipe-index l.recipes)
