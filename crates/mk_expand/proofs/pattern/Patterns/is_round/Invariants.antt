use Rattle.std.proofs.Common.{◌≡◌, drop}
use Rattle.mk_expand.specs.Shown.{is_round_of}
use Rattle.mk_expand.proofs.pattern.Patterns.is_round.Given as goal

abbrev pub invariant-loop-sides : goal.invariant-loop-sides
invariant-loop-sides l = is_round_of l.self.rounds.items l.word ≡ is_round_of (drop l.sides-index l.self.rounds.items) l.word
