use Rattle.std.proofs.Common.{◌≡◌, drop}
use Rattle.kc_menu.specs.Visible.{is_visible}
use Rattle.kc_menu.proofs.menu.Menu.is_visible.Given as goal

-- the entries that are left decide
abbrev pub invariant-loop-entry : goal.invariant-loop-entry
invariant-loop-entry l = is_visible (drop l.entry-index l.entry-items) l.symbol l.values ≡ is_visible l.entry-items l.symbol l.values
