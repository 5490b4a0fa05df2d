use Rattle.std.proofs.Common.{take, map}
use Rattle.std.specs.Prelude.{All}
use Rattle.recipe_set.specs.Found.{told, IsFound}
use Rattle.recipe_set.proofs.Listing.{IsListing}
use Rattle.recipe_set.proofs.folder.recipes_in.Given as goal

-- the recipes of the folders so far
abbrev pub invariant-loop-name : goal.invariant-loop-name
invariant-loop-name l = IsListing l.files (take l.name-index l.name-items) (map told l.recipes.items) × All IsFound l.recipes.items
