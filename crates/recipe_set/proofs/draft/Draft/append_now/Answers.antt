use Rattle.std.proofs.Common.{rules, true}
use Rattle.recipe_set.specs.Effect.{Appends, value}
use Rattle.recipe_set.proofs.Values.{no_value, handed_step}
use Rattle.recipe_set.proofs.draft.Draft.append_now.Goals as goal

pub returns-in_err-bytes : goal.returns-in_err-bytes
returns-in_err-bytes c =
    handed_step (Appends c.args.folder.now.name c.args.self.now c.args.name c.args.text.now true) c.from_residual.result c.args.self.now c.in_err-bytes.field-0.0 (search rules)
    (c.in_err-bytes.ensures.held, λ some. no_value _ _ _ _ _ _ _ c.as_slice.ensures (c.in_err-bytes.ensures.fault some))

pub returns : goal.returns
returns c = value c.in_ok-bytes.bytes c.in_ok-bytes.ensures.value (search rules)
