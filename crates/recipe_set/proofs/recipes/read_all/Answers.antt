use Rattle.std.proofs.Common.{◌≤◌, [], Ok, length, map, rules, sym, subst, take, arith}
use Rattle.recipe_set.specs.Reading.{ReadsAll}
use Rattle.recipe_set.specs.Found.{told}
use Rattle.recipe_set.specs.Forms.{AreFormsOf}
use Rattle.recipe_set.proofs.AllRecipes.{folders, folders_more, next_leads, stop_leads, end_leads}
use Rattle.recipe_set.proofs.Values.{handed_answer}
use Rattle.recipe_set.proofs.recipes.read_all.Goals as goal

pub returns-in_err-draft : goal.returns-in_err-draft
returns-in_err-draft c =
    let answer = c.in_err-draft.ensures.answer (folders (take c.loop-recipe.recipe-index c.args.recipes.now)) c.loop-recipe.invariant.0 in
    handed_answer (ReadsAll [] (Ok c.args.draft) (map told c.args.recipes.now)) c.from_residual.result c.in_err-draft.field-0.0 (search rules) (
      answer.0,
      λ some. stop_leads c.args.recipes.now c.args.draft c.loop-recipe.recipe-index c.loop-recipe.draft c.recipe-item.result c.loop-recipe-test.true c.recipe-item.is c.loop-recipe.invariant.1 c.in_err-draft.field-0.0
          (answer.1 some),
    )

pub loop-recipe-preserved : goal.loop-recipe-preserved
loop-recipe-preserved c = (
  subst (λ f. AreFormsOf f c.read_recipe.new.forms)
      (sym (folders_more c.args.recipes.now c.args.draft c.loop-recipe.recipe-index c.loop-recipe.draft c.recipe-item.result c.loop-recipe-test.true c.recipe-item.is c.loop-recipe.invariant.1))
      (c.in_ok-draft.ensures.forms (folders (take c.loop-recipe.recipe-index c.args.recipes.now)) c.loop-recipe.invariant.0),
  next_leads c.args.recipes.now c.args.draft c.loop-recipe.recipe-index c.loop-recipe.draft c.recipe-item.result c.loop-recipe-test.true c.recipe-item.is c.loop-recipe.invariant.1 c.in_ok-draft.draft
      (c.in_ok-draft.ensures.answer (folders (take c.loop-recipe.recipe-index c.args.recipes.now)) c.loop-recipe.invariant.0),
)

pub returns : goal.returns
returns c =
    let all : length c.args.recipes.now ≤ c.loop-recipe.recipe-index = omega arith in
    end_leads c.args.recipes.now c.args.draft c.loop-recipe.recipe-index c.loop-recipe.draft all c.loop-recipe.invariant.1
