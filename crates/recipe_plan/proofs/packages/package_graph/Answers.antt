use Rattle.std.proofs.Common.{◌*◌, ◌/◌, ◌<◌, ◌≤◌, length, subst, arith}
use Rattle.std.proofs.lemmas.List.Elements.{All-weaker}
use Rattle.recipe_plan.specs.Needs.{AreAdded}
use Rattle.recipe_plan.specs.Packages.{place_of_task}
use Rattle.recipe_plan.proofs.PackageLaws.{IsOther, packages_next, packages_at_last, rows_halved}
use Rattle.recipe_plan.proofs.packages.package_graph.Goals as goal

pub put_packages-requires-clause-task : goal.put_packages-requires-clause-task
put_packages-requires-clause-task c =
    let half = rows_halved c.args.plan.now c.loop-task.graph c.count-count.result c.count-count.ensures.plan c.count-count.ensures.count c.loop-task.invariant.count in
    omega arith

pub put_packages-requires-clause-needs : goal.put_packages-requires-clause-needs
put_packages-requires-clause-needs c =
    let graph = c.loop-task.graph in
    let rows = c.args.plan.now.rows in
    let half = rows_halved c.args.plan.now graph c.count-count.result c.count-count.ensures.plan c.count-count.ensures.count c.loop-task.invariant.count in
    All-weaker (λ need. need < length rows) (λ need. need < 2 * length graph) (λ need below. omega arith) c.needs.result.now c.needs.ensures.tasks

pub loop-task-preserved : goal.loop-task-preserved
loop-task-preserved c =
    let needs = c.args.plan.now.graph in
    let old = c.loop-task.graph in
    let new = c.put_packages.new.graph in
    let task = c.loop-task.task in
    packages_next needs task (c.count-count.result / 2) old new c.loop-task.invariant
    (subst (λ some. AreAdded old (place_of_task task) (IsOther task some) new) c.needs.ensures.needs c.in_ok-put_packages.ensures)

pub prove-unreachable-requires : goal.prove-unreachable-requires
prove-unreachable-requires c =
    let half = rows_halved c.args.plan.now c.loop-task.graph c.count-count.result c.count-count.ensures.plan c.count-count.ensures.count c.loop-task.invariant.count in
    absurd (omega arith)

pub returns-clause-names : goal.returns-clause-names
returns-clause-names c =
    let plan = c.args.plan.now in
    let all : length plan.graph ≤ c.loop-task.task = omega (arith, c.count-count.ensures.plan.count) in
    packages_at_last plan.graph c.loop-task.task (c.count-count.result / 2) c.loop-task.graph all c.loop-task.invariant
