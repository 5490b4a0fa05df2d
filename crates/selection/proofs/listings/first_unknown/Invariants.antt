use Rattle.std.proofs.Common.{◌≡◌, drop, find}
use Rattle.selection.specs.Selected.{is_unknown}
use Rattle.selection.specs.Shown.{shown}
use Rattle.selection.proofs.listings.first_unknown.Given as goal

-- those that are left decide
abbrev pub invariant-loop-owner : goal.invariant-loop-owner
invariant-loop-owner l = find (is_unknown l.made) (shown (drop l.owner-index l.listings)) ≡ find (is_unknown l.made) (shown l.listings)
