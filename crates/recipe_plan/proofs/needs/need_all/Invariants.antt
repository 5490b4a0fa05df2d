use Rattle.std.proofs.Common.{take}
use Rattle.recipe_plan.specs.Needs.{AreAdded, IsTaskOf}
use Rattle.recipe_plan.proofs.needs.need_all.Given as goal

abbrev pub invariant-loop-name : goal.invariant-loop-name
invariant-loop-name l = AreAdded l.initial.graph l.task (IsTaskOf l.selection l.part (take l.name-index l.names)) l.graph
