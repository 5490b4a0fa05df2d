use Rattle.std.proofs.Common.{◌≡◌, drop}
use Rattle.kc_equations.specs.Behind.{behind}
use Rattle.kc_equations.specs.Choices.{has_visible}
use Rattle.kc_equations.proofs.choice.has_visible.Given as goal

-- the entries that are left decide
abbrev pub invariant-loop-entry : goal.invariant-loop-entry
invariant-loop-entry l = has_visible l.values (behind (drop l.entry-index l.members)) ≡ has_visible l.values (behind l.members)
