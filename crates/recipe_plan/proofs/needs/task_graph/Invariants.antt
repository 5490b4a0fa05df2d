use Rattle.recipe_plan.proofs.NeedLaws.{AreNeedsSoFar}
use Rattle.recipe_plan.proofs.needs.task_graph.Given as goal

abbrev pub invariant-loop-place : goal.invariant-loop-place
invariant-loop-place l = AreNeedsSoFar l.selection l.place l.graph
