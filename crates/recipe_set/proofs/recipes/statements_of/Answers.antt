use Rattle.std.proofs.Common.{◌≤◌, Err, length, sym, subst, ◌∙◌, arith}
use Rattle.mk_syntax.specs.Lines.{joined_lines, line_count}
use Rattle.mk_syntax.specs.Grammar.{IsErrorOf}
use Rattle.recipe_set.specs.Reading.{ReadsRecipe}
use Rattle.recipe_set.proofs.Outcomes.{named_wrong, not_read, line_count-length}
use Rattle.recipe_set.proofs.recipes.statements_of.Goals as goal

pub returns-then-not-branch-clause-fault : goal.returns-then-not-branch-clause-fault
returns-then-not-branch-clause-fault c earlier are = λ some draft.
    named_wrong earlier draft c.args.recipe.now.folder.name c.args.recipe.now.text.now _ (c.in_ok-copy.ensures ∙ c.requires.found.path) (sym (c.in_ok-is_allowed.ensures.allowed earlier are) ∙ c.if-not-branch.true)

pub read-requires : goal.read-requires
read-requires c = let few : line_count c.args.recipe.now.text.now ≤ length c.args.recipe.now.text.now = line_count-length c.args.recipe.now.text.now in omega (arith, c.requires.small)

pub returns-in-Err-Fault-clause-fault : goal.returns-in-Err-Fault-clause-fault
returns-in-Err-Fault-clause-fault c earlier are = λ some draft.
    subst (λ f. ReadsRecipe earlier draft c.args.recipe.now.folder.name c.args.recipe.now.text.now (Err f)) (sym (c.not_read.ensures.fault some))
    (not_read earlier draft c.args.recipe.now.folder.name c.args.recipe.now.text.now _ c.requires.found.path c.in-Err-Fault.fault (sym (c.in_ok-is_allowed.ensures.allowed earlier are) ∙ c.if-not-branch.false)
    (subst (IsErrorOf (joined_lines c.args.recipe.now.text.now)) c.in-Err-Fault.field-0-is c.in-Err-Fault.ensures.fault))
