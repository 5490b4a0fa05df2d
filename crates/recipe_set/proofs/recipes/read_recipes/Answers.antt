use Rattle.std.proofs.Common.{◌≢◌, ◌<◌, Err, length, rules}
use Rattle.std.proofs.lemmas.List.Elements.{All-same}
use Rattle.recipe_set.specs.declared.fault.PlanFault.TheVariants.{Memory as no_memory}
use Rattle.recipe_set.specs.Reading.{IsReading}
use Rattle.recipe_set.proofs.AllRecipes.{small_recipes}
use Rattle.recipe_set.proofs.Values.{handed_fault}
use Rattle.recipe_set.proofs.Whole.{stops, finds, ends}
use Rattle.recipe_set.proofs.recipes.read_recipes.Goals as goal

pub read_all-requires-clause-small : goal.read_all-requires-clause-small
read_all-requires-clause-small c =
    All-same (λ recipe. length recipe.text.now < 2147483648) c.as_slice.result.now c.in_ok-recipes.recipes.items c.as_slice.ensures.value (small_recipes c.args.files.now c.in_ok-recipes.recipes.items c.requires c.in_ok-recipes.ensures.recipes)

pub returns-in_err-draft-clause-fault : goal.returns-in_err-draft-clause-fault
returns-in_err-draft-clause-fault c =
    handed_fault (λ fault. fault ≢ no_memory → IsReading c.args.files.now c.args.values.now (Err fault)) c.from_residual-in_err-draft.result c.in_err-draft.field-0.0 (search rules) (λ some.
    stops c.args.files.now c.args.values.now c.in_ok-recipes.recipes.items c.in_ok-recipes.ensures.recipes c.in_ok-first_draft.field-0 c.as_slice.result.now c.in_err-draft.field-0.0 c.in_ok-first_draft.ensures
    c.as_slice.ensures.value (c.in_err-draft.ensures.1 some))

pub returns-clause-fault : goal.returns-clause-fault
returns-clause-fault c = λ some.
    finds c.args.files.now c.args.values.now c.in_ok-recipes.recipes.items c.in_ok-recipes.ensures.recipes c.in_ok-first_draft.field-0 c.as_slice.result.now c.in_ok-draft.draft c.in-Err.fault c.in_ok-first_draft.ensures
    c.as_slice.ensures.value c.in_ok-draft.ensures (c.in-Err.ensures.fault some)

pub returns-in-Ok-clause-recipes : goal.returns-in-Ok-clause-recipes
returns-in-Ok-clause-recipes c =
    ends c.args.files.now c.args.values.now c.in_ok-recipes.recipes.items c.in_ok-recipes.ensures.recipes c.in_ok-first_draft.field-0 c.as_slice.result.now c.in_ok-draft.draft _ c.in_ok-first_draft.ensures c.as_slice.ensures.value
    c.in_ok-draft.ensures c.in-Ok.ensures.none c.in_ok-into_recipes-in-Ok.ensures.recipes
