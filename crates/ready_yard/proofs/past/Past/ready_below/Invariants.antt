use Rattle.std.proofs.Common.{◌≡◌, ℕ, ◌<◌, false}
use Rattle.ready_yard.specs.History.{is_ready}
use Rattle.ready_yard.proofs.past.Past.ready_below.Given as goal

abbrev pub invariant-loop-other : goal.invariant-loop-other
invariant-loop-other l = (k : ℕ) → k < l.other → is_ready l.graph l.past k ≡ false
