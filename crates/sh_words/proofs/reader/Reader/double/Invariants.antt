use Rattle.std.proofs.Common.{◌≡◌, false, length}
use Rattle.sh_words.specs.Pieces.{double}
use Rattle.sh_words.proofs.reader.Reader.double.Given as goal

abbrev pub invariant-loop-place : goal.invariant-loop-place
invariant-loop-place l =
    double false l.word.items l.self.place l.self.rest.now ≡ double false l.initial.word.items l.initial.self.place l.initial.self.rest.now

abbrev pub decreases-loop-place : goal.decreases-loop-place
decreases-loop-place l = length l.self.rest.now
