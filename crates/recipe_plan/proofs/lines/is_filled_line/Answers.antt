use Rattle.std.proofs.Common.{ap, not, rules, tests}
use Rattle.std.proofs.lemmas.Iterator.{YieldsList-from_slice}
use Rattle.std.proofs.lemmas.Iterator.Search.{all_from_yields_List}
use Rattle.mk_expand.specs.Words.{is_blank}
use Rattle.recipe_plan.proofs.lines.is_filled_line.Goals as goal

pub returns : goal.returns
returns c = ap not (all_from_yields_List is_blank _ _ _ c.all.ensures.ran (YieldsList-from_slice c.args.line.now cc) (λ x b q k. search (rules, tests)))
