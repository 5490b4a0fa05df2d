use Rattle.std.proofs.Common.{◌≡◌, ◌≤◌, drop}
use Rattle.mk_expand.specs.Bracket.{close_of}
use Rattle.mk_expand.proofs.bracket.Bracket.close.Given as goal

abbrev pub invariant-loop-place : goal.invariant-loop-place
invariant-loop-place l = (l.level ≤ l.place) × (close_of l.self 0 0 l.text ≡ close_of l.self l.level l.place (drop l.place l.text))
