use Rattle.std.proofs.Common.{◌≡◌, Some, sym, ap, ◌∙◌}
use Rattle.std.specs.List.{slice_get}
use Rattle.std.specs.Option.{option_map}
use Rattle.kc_values.specs.Values.{named}
use Rattle.recipe_set.specs.First.{with_symbol}
use Rattle.recipe_set.proofs.Firsts.{symbol_more}
use Rattle.recipe_set.proofs.first.put_symbols.Goals as goal

pub loop-place-preserved : goal.loop-place-preserved
loop-place-preserved c =
    let at : slice_get c.args.values.now c.loop-place.place ≡ Some (c.unwrap.result.0.now, c.unwrap.result.1.now) = sym c.at.ensures ∙ ap (option_map named) c.unwrap.ensures in
    c.in_ok-put_symbol.ensures
    ∙ ap (λ vars. with_symbol vars (c.unwrap.result.0.now, c.unwrap.result.1.now)) c.loop-place.invariant
    ∙ symbol_more c.args.vars.now c.args.values.now c.loop-place.place c.unwrap.result.0.now c.unwrap.result.1.now at
