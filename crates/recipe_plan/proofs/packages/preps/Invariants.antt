use Rattle.std.proofs.Common.{◌≡◌, take}
use Rattle.recipe_plan.proofs.PackageLaws.{preps_of}
use Rattle.recipe_plan.proofs.packages.preps.Given as goal

abbrev pub invariant-loop-place : goal.invariant-loop-place
invariant-loop-place l = l.tasks.items ≡ preps_of l.own (take l.place-index l.places)
