use Rattle.selection.specs.Selecting.{LacksRecipe}
use Rattle.selection.proofs.LeastLaws.{AreOff}
use Rattle.selection.proofs.missing.first_without_recipe.Given as goal

-- none of the first folders lacks its recipe
abbrev pub invariant-loop-name : goal.invariant-loop-name
invariant-loop-name l = AreOff (LacksRecipe l.files l.values l.packages) l.names l.name-index
