use Rattle.std.proofs.Common.{◌≡◌, [], drop, map}
use Rattle.mk_expand.specs.Lists.{sorted_with}
use Rattle.mk_expand.proofs.apply.sorted.Given as goal

abbrev pub invariant-loop-word : goal.invariant-loop-word
invariant-loop-word l =
    sorted_with [] (map (λ word. word.now) l.words) ≡ sorted_with (map (λ word. word.now) l.found.keys) (map (λ word. word.now) (drop l.word-index l.words))
