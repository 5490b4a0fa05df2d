use Rattle.std.proofs.Common.{◌≡◌, [], length}
use Rattle.sh_words.specs.Left.{repeated}
use Rattle.sh_words.specs.Bytes.{ends_word}
use Rattle.sh_words.specs.Words.{piece}
use Rattle.sh_words.specs.Shown.{shown}
use Rattle.sh_words.proofs.reader.Reader.word.Given as goal

abbrev pub invariant-loop-self : goal.invariant-loop-self
invariant-loop-self l = repeated ends_word piece l.word.items (shown l.self) ≡ repeated ends_word piece [] (shown l.initial.self)

abbrev pub decreases-loop-self : goal.decreases-loop-self
decreases-loop-self l = length l.self.rest.now
