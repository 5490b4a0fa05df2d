use Rattle.std.proofs.Common.{◌≡◌, length}
use Rattle.sh_words.specs.Pieces.{single}
use Rattle.sh_words.proofs.reader.Reader.single.Given as goal

abbrev pub invariant-loop-byte : goal.invariant-loop-byte
invariant-loop-byte l =
    single l.word.items l.self.place l.self.rest.now ≡ single l.initial.word.items l.initial.self.place l.initial.self.rest.now

abbrev pub decreases-loop-byte : goal.decreases-loop-byte
decreases-loop-byte l = length l.self.rest.now
