use Rattle.std.proofs.Common.{◌≡◌, ℕ, List, take}
use Rattle.kc_menu.specs.Visible.{is_visible}
use Rattle.dot_config.specs.Symbols.{has}
use Rattle.dot_config.proofs.writer.visible_symbols.Given as goal

-- the symbols that the entries so far make visible
abbrev pub invariant-loop-entry : goal.invariant-loop-entry
invariant-loop-entry l = (symbol : List ℕ) → has symbol l.visible ≡ is_visible (take l.entry-index l.entry-items) symbol l.values
