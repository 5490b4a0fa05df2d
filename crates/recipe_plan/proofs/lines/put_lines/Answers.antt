use Rattle.std.proofs.Common.{◌++◌, ◌==◌, ap, map, rules, tests, ◌∙◌}
use Rattle.std.specs.Prelude.{filter}
use Rattle.std.proofs.lemmas.Iterator.Consumers.{YieldsList-end}
use Rattle.std.proofs.lemmas.Iterator.Splits.{YieldsList-from_slice_split}
use Rattle.recipe_plan.specs.Lines.{command_line, is_filled_line}
use Rattle.recipe_plan.proofs.lines.put_lines.Goals as goal

pub returns : goal.returns
returns c =
    c.loop-line.invariant
    ∙ ap (λ lines. c.args.lines.now.items ++ map command_line (filter is_filled_line lines))
    (YieldsList-end (YieldsList-from_slice_split {s = c.into_iter-line-iterator.result} _ (λ byte. byte == 10) c.args.text.now (search rules) (search rules) (search rules) (λ x r q k. search (rules, tests)))
    c.loop-line.yielded _ c.loop-line.yielded_by _ _ c.in-None.is c.next.ensures.steps).0
