use Rattle.std.proofs.Common.{◌≡◌, ◌++◌, drop}
use Rattle.selection.specs.Chains.{picked}
use Rattle.selection.proofs.chains.picked.Given as goal

-- the packages at the places that are left are still to come
abbrev pub invariant-loop-place : goal.invariant-loop-place
invariant-loop-place l = l.chosen.items ++ picked l.all (drop l.place-index l.places) ≡ picked l.all l.places
