use Rattle.std.proofs.Common.{◌≡◌, drop, find}
use Rattle.selection.specs.Selected.{is_unselected}
use Rattle.selection.specs.Shown.{shown}
use Rattle.selection.proofs.listings.first_unselected.Given as goal

-- those that are left decide
abbrev pub invariant-loop-owner : goal.invariant-loop-owner
invariant-loop-owner l = find (is_unselected l.made l.chosen) (shown (drop l.owner-index l.listings)) ≡ find (is_unselected l.made l.chosen) (shown l.listings)
