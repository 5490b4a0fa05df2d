use Rattle.std.proofs.Common.{◌≡◌, length}
use Rattle.sh_words.specs.Left.{behind_blanks}
use Rattle.sh_words.proofs.reader.Reader.skip_blanks.Given as goal

abbrev pub invariant-loop-byte : goal.invariant-loop-byte
invariant-loop-byte l = behind_blanks l.self.place l.self.rest.now ≡ behind_blanks l.initial.self.place l.initial.self.rest.now

abbrev pub decreases-loop-byte : goal.decreases-loop-byte
decreases-loop-byte l = length l.self.rest.now
