use Rattle.std.proofs.Common.{◌≡◌, None, replicate}
use Rattle.kc_solve.proofs.members.Chosen.new.Given as goal

abbrev pub invariant-loop : goal.invariant-loop
invariant-loop l = l.found.items ≡ replicate l.counter None
