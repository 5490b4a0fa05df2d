use Rattle.std.proofs.Common.{rules, Ok}
use borrow.Author.Tests.{tests}
use Rattle.std.proofs.lemmas.Iterator.Consumers.{YieldsList-at, YieldsList-from_filter, map_from_collect}
use Rattle.std.proofs.lemmas.Iterator.Splits.{YieldsList-from_slice_split}
use Rattle.mk_expand.specs.Words.{is_white, is_filled}
use Rattle.mk_expand.proofs.blanks.words.Goals as goal

pub returns : goal.returns
returns c =
    map_from_collect {E = Unit {0}} (Ok c.in_ok-collect.field-0) c.in_ok-collect.ensures.ran
    (YieldsList-from_filter {s = c.filter.result} _ is_filled
    (YieldsList-at c.filter.ensures.source (YieldsList-from_slice_split {s = c.split.result} _ is_white c.args.text.now (search rules) (search rules) (search rules) (λ x r q k. search (rules, tests))))
    (search rules) (λ x r q k. search (rules, tests)))
