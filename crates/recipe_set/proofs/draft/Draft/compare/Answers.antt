use Rattle.std.proofs.Common.{rules, refl}
use Rattle.mk_syntax.specs.declared.recipe.Test.TheVariants.{Equal}
use Rattle.recipe_set.specs.Effect.{Asks, value}
use Rattle.recipe_set.proofs.Values.{no_value, handed_answer}
use Rattle.recipe_set.proofs.draft.Draft.compare.Goals as goal

pub returns-in_err-one : goal.returns-in_err-one
returns-in_err-one c =
    handed_answer (Asks c.args.folder.now.name c.args.self.now (Equal c.args.left.now c.args.right.now c.args.wanted)) c.from_residual.result c.in_err-one.field-0.0 (search rules)
    (c.in_err-one.ensures.held, λ some. no_value _ _ _ _ _ _ _ refl (c.in_err-one.ensures.fault some))

pub returns-in_err-other : goal.returns-in_err-other
returns-in_err-other c =
    handed_answer (Asks c.args.folder.now.name c.args.self.now (Equal c.args.left.now c.args.right.now c.args.wanted)) c.from_residual-in_err-other.result c.in_err-other.field-0.0 (search rules)
    (c.in_err-other.ensures.held, λ some. value c.in_ok-one.one c.in_ok-one.ensures.value (no_value _ _ _ _ _ _ _ refl (c.in_err-other.ensures.fault some)))

pub returns : goal.returns
returns c = value c.in_ok-one.one c.in_ok-one.ensures.value (value c.in_ok-other.other c.in_ok-other.ensures.value (search rules))
