use Rattle.recipe_set.proofs.Firsts.{presets_set}
use Rattle.recipe_set.proofs.first.put_presets.Goals as goal

pub returns : goal.returns
returns c =
    presets_set c.args.vars.now _ _ _ _ _ c.preset-6.new.vars c.preset-6.result c.in_ok-preset.ensures c.in_ok-preset-2.ensures c.in_ok-preset-3.ensures c.in_ok-preset-4.ensures c.in_ok-preset-5.ensures
    c.preset-6.ensures
