use Rattle.std.proofs.Common.{◌≡◌, rules, subst, sym}
use Rattle.std.specs.List.{Contains}
use Rattle.selection.proofs.missing.least_without_recipe.Goals as goal

pub first_without_recipe-requires-clause-all : goal.first_without_recipe-requires-clause-all
first_without_recipe-requires-clause-all c =
    let same : c.as_slice.result.now ≡ c.in_ok-names.names = search rules in
    λ name child. subst (λ names. Contains names name) (sym same) ((c.in_ok-names.ensures.names name).1 child)
