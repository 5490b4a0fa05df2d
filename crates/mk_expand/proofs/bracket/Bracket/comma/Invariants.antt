use Rattle.std.proofs.Common.{◌≡◌, ◌≤◌, drop}
use Rattle.mk_expand.specs.Bracket.{comma_of}
use Rattle.mk_expand.proofs.bracket.Bracket.comma.Given as goal

abbrev pub invariant-loop-place : goal.invariant-loop-place
invariant-loop-place l = (l.level ≤ l.place) × (comma_of l.self 0 0 l.text ≡ comma_of l.self l.level l.place (drop l.place l.text))
