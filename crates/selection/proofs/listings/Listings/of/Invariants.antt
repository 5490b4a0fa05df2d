use Rattle.std.proofs.Common.{◌≡◌, ◌++◌, drop}
use Rattle.selection.specs.Selected.{listings}
use Rattle.selection.proofs.listings.Listings.of.Given as goal

-- what the packages that are left list is still to come
abbrev pub invariant-loop-listed : goal.invariant-loop-listed
invariant-loop-listed l = l.found ++ listings (drop l.listed-index l.packages) ≡ listings l.packages
