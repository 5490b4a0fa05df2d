use Rattle.std.proofs.Common.{◌≡◌, drop, find}
use Rattle.kc_equations.specs.Behind.{behind}
use Rattle.kc_menu.specs.Visible.{is_visible}
use Rattle.kc_equations.proofs.choice.first_member.Given as goal

-- the first is among those that are left
abbrev pub invariant-loop-entry : goal.invariant-loop-entry
invariant-loop-entry l = find (λ e. is_visible (behind l.members) e.symbol l.values) (behind (drop l.entry-index l.members)) ≡ find (λ e. is_visible (behind l.members) e.symbol l.values) (behind l.members)
