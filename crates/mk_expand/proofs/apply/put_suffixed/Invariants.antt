use Rattle.std.proofs.Common.{◌≡◌, ◌++◌, drop, map}
use Rattle.mk_expand.specs.Words.{row, row_behind}
use Rattle.mk_expand.specs.Draft.{put}
use Rattle.mk_expand.proofs.apply.put_suffixed.Given as goal

abbrev pub invariant-loop-word : goal.invariant-loop-word
invariant-loop-word l =
    put (row (map (λ word. word ++ l.suffix) (map (λ word. word.now) l.words))) l.initial.out ≡ put (row_behind l.gap (map (λ word. word ++ l.suffix) (map (λ word. word.now) (drop l.word-index l.words)))) l.out
