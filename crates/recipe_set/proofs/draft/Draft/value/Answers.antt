use Rattle.recipe_set.proofs.Values.{is_outside}
use Rattle.recipe_set.proofs.draft.Draft.value.Goals as goal

pub returns-clause-fault : goal.returns-clause-fault
returns-clause-fault c = λ some. (
  c.in-Err.fault,
  is_outside c.args.self.now.vars c.args.text.now c.as_slice.result.now c.new.result c.in-Err.fault c.as_slice.ensures c.new.ensures (c.in-Err.ensures.fault (λ none. some (c.no_value.ensures.some none))),
  c.no_value.ensures.fault some,
)
