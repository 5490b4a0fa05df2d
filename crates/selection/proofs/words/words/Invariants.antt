use Rattle.std.proofs.Common.{◌≡◌, map}
use Rattle.std.specs.Prelude.{filter}
use Rattle.mk_expand.specs.Words.{is_filled}
use Rattle.selection.proofs.words.words.Given as goal

-- the words of the parts that came
abbrev pub invariant-loop-word : goal.invariant-loop-word
invariant-loop-word l = l.names.items ≡ filter is_filled (map (λ word. word.now) l.yielded)
