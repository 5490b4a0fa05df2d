use Rattle.std.proofs.Common.{◌≡◌, drop, map}
use Rattle.std.specs.Prelude.{filter}
use Rattle.mk_expand.specs.Words.{row, row_behind}
use Rattle.mk_expand.specs.Shown.{is_matched_by}
use Rattle.mk_expand.specs.Draft.{put}
use Rattle.mk_expand.proofs.apply.put_fitting.Given as goal

abbrev pub invariant-loop-word : goal.invariant-loop-word
invariant-loop-word l =
    put (row (filter (λ word. is_matched_by l.patterns word) (map (λ word. word.now) l.words))) l.initial.out
    ≡ put (row_behind l.gap (filter (λ word. is_matched_by l.patterns word) (map (λ word. word.now) (drop l.word-index l.words)))) l.out
