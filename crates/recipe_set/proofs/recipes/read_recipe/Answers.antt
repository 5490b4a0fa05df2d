use Rattle.recipe_set.proofs.Outcomes.{statements_read}
use Rattle.recipe_set.proofs.recipes.read_recipe.Goals as goal

pub returns-in-Ok-clause-answer : goal.returns-in-Ok-clause-answer
returns-in-Ok-clause-answer c earlier are =
    statements_read earlier c.args.draft c.args.recipe.now.folder.name c.args.recipe.now.text.now (c.in-Ok.ensures.allowed earlier are) c.in-Ok.statements _ c.in-Ok.ensures.statements
    c.read_statements.ensures.draft c.read_statements.ensures.fault c.read_statements.ensures.held

pub returns-in-Err-clause-answer : goal.returns-in-Err-clause-answer
returns-in-Err-clause-answer c earlier are = (c.in-Err.ensures.held, λ some. c.in-Err.ensures.fault earlier are some c.args.draft)
