use Rattle.std.proofs.Common.{◌≡◌, ◌≤◌, drop}
use Rattle.mk_syntax.specs.Brackets.{comma}
use Rattle.mk_syntax.proofs.brackets.comma.Given as goal

abbrev pub invariant-loop-place : goal.invariant-loop-place
invariant-loop-place l = (l.level ≤ l.place) × (comma 0 0 l.text ≡ comma l.level l.place (drop l.place l.text))
