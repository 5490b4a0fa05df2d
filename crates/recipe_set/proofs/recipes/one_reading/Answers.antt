use Rattle.recipe_set.proofs.OneReading.{reading_once}
use Rattle.recipe_set.proofs.recipes.one_reading.Goals as goal

pub returns : goal.returns
returns c files values one other = reading_once files values one other
