use Rattle.std.proofs.Common.{◌≡◌, drop, map}
use Rattle.std.specs.Prelude.{filter}
use Rattle.mk_expand.specs.Words.{is_filled, row, row_behind}
use Rattle.mk_expand.specs.Lists.{exchanged}
use Rattle.mk_expand.specs.Draft.{put}
use Rattle.mk_expand.proofs.apply.put_exchanged.Given as goal

abbrev pub invariant-loop-word : goal.invariant-loop-word
invariant-loop-word l =
    put (row (filter is_filled (map (exchanged l.pattern l.replacement) (map (λ word. word.now) l.words)))) l.initial.out ≡ put (row_behind l.gap (filter is_filled (map (exchanged l.pattern l.replacement) (map (λ word. word.now) (drop l.word-index l.words))))) l.out
