use Rattle.std.proofs.Common.{◌≡◌, ◌++◌, drop}
use Rattle.selection.specs.Lists.{taken_over}
use Rattle.selection.proofs.words.taken_over.Given as goal

-- what is taken over of the words that are left is still to come
abbrev pub invariant-loop-word : goal.invariant-loop-word
invariant-loop-word l = l.names.items ++ taken_over l.own (drop l.word-index l.words) ≡ taken_over l.own l.words
