use Rattle.std.proofs.Common.{◌≡◌, drop}
use Rattle.kc_equations.specs.Behind.{behind}
use Rattle.kc_menu.specs.Visible.{is_visible}
use Rattle.kc_equations.proofs.choice.is_visible.Given as goal

-- the entries that are left decide
abbrev pub invariant-loop-entry : goal.invariant-loop-entry
invariant-loop-entry l = is_visible (behind (drop l.entry-index l.members)) l.symbol l.values ≡ is_visible (behind l.members) l.symbol l.values
