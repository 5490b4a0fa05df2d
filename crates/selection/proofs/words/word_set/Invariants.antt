use Rattle.std.proofs.Common.{◌≡◌, map, fold}
use Rattle.std.specs.Vec.Iter.{into_iter_items}
use Rattle.selection.specs.Lists.{put_word, distinct}
use Rattle.selection.proofs.words.word_set.Given as goal

-- the words that are left are still to be put
abbrev pub invariant-loop-word : goal.invariant-loop-word
invariant-loop-word l = fold put_word (map (λ key. key.items) l.set.keys) (into_iter_items l.word-iterator) ≡ distinct l.fn.words
