use Rattle.std.proofs.Common.{◌/◌}
use Rattle.recipe_plan.proofs.PackageLaws.{HasPackages}
use Rattle.recipe_plan.proofs.packages.package_graph.Given as goal

abbrev pub invariant-loop-task : goal.invariant-loop-task
invariant-loop-task l = HasPackages l.plan.graph l.task (l.count / 2) l.graph
