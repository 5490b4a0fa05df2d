use Rattle.std.proofs.Common.{rules}
use Rattle.mk_syntax.specs.declared.recipe.How.TheVariants.{Now}
use Rattle.recipe_set.specs.Effect.{Sets, value}
use Rattle.recipe_set.proofs.Values.{no_value, handed_step}
use Rattle.recipe_set.proofs.draft.Draft.set_now.Goals as goal

pub returns-in_err-bytes : goal.returns-in_err-bytes
returns-in_err-bytes c =
    handed_step (Sets c.args.folder.now.name c.args.self.now c.args.name Now c.args.text.now) c.from_residual.result c.args.self.now c.in_err-bytes.field-0.0 (search rules)
    (c.in_err-bytes.ensures.held, λ some. no_value _ _ _ _ _ _ _ c.as_slice.ensures (c.in_err-bytes.ensures.fault some))

pub returns : goal.returns
returns c = value c.in_ok-bytes.bytes c.in_ok-bytes.ensures.value (search rules)
