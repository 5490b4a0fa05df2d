use Rattle.recipe_plan.proofs.OnePlan.{planning_once, naming_once}
use Rattle.recipe_plan.proofs.laws.one_plan.Goals as goal

pub returns-clause-plan : goal.returns-clause-plan
returns-clause-plan c files values one other is was = planning_once files values one other is was

pub returns-clause-names : goal.returns-clause-names
returns-clause-names c files values one other is was = naming_once files values one other is was
