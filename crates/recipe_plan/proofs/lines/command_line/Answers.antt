use Rattle.std.proofs.Common.{take, arith, rules, tests, ◌==◌}
use Rattle.std.proofs.lemmas.Grind.{common_steps}
use Rattle.std.proofs.lemmas.Iterator.{YieldsList-from_slice}
use Rattle.std.proofs.lemmas.Iterator.Search.{any_from_yields_List}
use Rattle.recipe_plan.specs.Lines.{front_length}
use Rattle.recipe_plan.proofs.lines.command_line.Goals as goal

pub returns : goal.returns
returns c =
    let ignored = any_from_yields_List (λ byte. byte == 45) _ _ c.any.result c.any.ensures.ran (YieldsList-from_slice (take (front_length c.args.line.now) c.args.line.now) (search rules)) (λ x b q k. search (rules, tests)) in
    grind (arith, common_steps)
