use Rattle.std.proofs.Common.{◌≡◌, [], drop, map, ap, sym, ◌∙◌, rules, arith}
use Rattle.std.proofs.lemmas.List.{drop_all}
use Rattle.mk_expand.specs.Lists.{sorted_with}
use Rattle.mk_expand.proofs.Sorts.{sorted_on}
use Rattle.mk_expand.proofs.apply.sorted.Goals as goal

pub loop-word-preserved : goal.loop-word-preserved
loop-word-preserved c =
    c.loop-word.invariant
    ∙ sorted_on (λ word. word.now) c.loop-word.found.keys c.insert.new.self.keys c.args.words.now c.loop-word.word-index _ c.loop-word-test.true c.in_ok-insert.ensures.keys

pub returns : goal.returns
returns c =
    let all : c.in_ok-collect.field-0.items ≡ c.loop-word.found.keys = search rules in
    let end : drop c.loop-word.word-index c.args.words.now ≡ [] = drop_all c.loop-word.word-index c.args.words.now (omega arith) in
    sym (c.loop-word.invariant
    ∙ (ap (λ words. sorted_with (map (λ word. word.now) c.loop-word.found.keys) (map (λ word. word.now) words)) end ∙ ap (map (λ word. word.now)) (sym all)))
