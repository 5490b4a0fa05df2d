use Rattle.recipe_plan.proofs.CycleLaws.{cycle_within}
use Rattle.recipe_plan.proofs.laws.cycles_have_names.Goals as goal

pub returns : goal.returns
returns c files values task names is named = cycle_within files values task names is named
