use Rattle.std.proofs.Common.{◌≡◌, take}
use Rattle.recipe_plan.specs.Needs.{names_of}
use Rattle.recipe_plan.proofs.planning.names_of.Given as goal

abbrev pub invariant-loop-item : goal.invariant-loop-item
invariant-loop-item l = l.items.items ≡ names_of (take l.item-index l.selection)
