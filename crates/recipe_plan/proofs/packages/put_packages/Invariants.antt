use Rattle.std.proofs.Common.{take}
use Rattle.recipe_plan.specs.Needs.{AreAdded}
use Rattle.recipe_plan.specs.Packages.{place_of_task}
use Rattle.recipe_plan.proofs.PackageLaws.{IsOther}
use Rattle.recipe_plan.proofs.packages.put_packages.Given as goal

abbrev pub invariant-loop-need : goal.invariant-loop-need
invariant-loop-need l = AreAdded l.initial.graph (place_of_task l.task) (IsOther l.task (take l.need-index l.needs)) l.graph
