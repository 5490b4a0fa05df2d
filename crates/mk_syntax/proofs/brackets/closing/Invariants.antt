use Rattle.std.proofs.Common.{◌≡◌, ◌≤◌, drop}
use Rattle.mk_syntax.specs.Brackets.{closing}
use Rattle.mk_syntax.proofs.brackets.closing.Given as goal

abbrev pub invariant-loop-place : goal.invariant-loop-place
invariant-loop-place l =
    (l.level ≤ l.place) × (closing l.opening l.closes 0 0 l.text ≡ closing l.opening l.closes l.level l.place (drop l.place l.text))
