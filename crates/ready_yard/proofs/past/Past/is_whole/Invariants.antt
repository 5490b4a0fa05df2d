use Rattle.std.proofs.Common.{◌≡◌, ℕ, ◌<◌, get_or, true, false}
use Rattle.ready_yard.proofs.past.Past.is_whole.Given as goal

abbrev pub invariant-loop-over : goal.invariant-loop-over
invariant-loop-over l = (t : ℕ) → t < l.over-index → get_or l.over-items t false ≡ true
