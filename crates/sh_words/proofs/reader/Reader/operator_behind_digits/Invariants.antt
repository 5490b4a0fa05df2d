use Rattle.std.proofs.Common.{◌≡◌, ◌+◌, drop}
use Rattle.sh_words.specs.Words.{operator_behind_digits}
use Rattle.sh_words.proofs.reader.Reader.operator_behind_digits.Given as goal

-- an operator stands after the digits that are left exactly where one stands after all of them
abbrev pub invariant-loop-byte : goal.invariant-loop-byte
invariant-loop-byte l =
    (l.place ≡ l.self.place + l.byte-index)
    × (operator_behind_digits l.place (drop l.byte-index l.self.rest.now) ≡ operator_behind_digits l.self.place l.self.rest.now)
