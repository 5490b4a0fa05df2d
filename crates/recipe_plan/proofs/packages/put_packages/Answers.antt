use Rattle.std.proofs.Common.{◌≡◌, ◌+◌, ◌<◌, length, get_or, take, sym, subst, arith}
use Rattle.std.proofs.lemmas.List.{get_or_default, take_all}
use Rattle.recipe_plan.specs.Needs.{AreAdded}
use Rattle.recipe_plan.specs.Packages.{place_of_task}
use Rattle.recipe_plan.proofs.PackageLaws.{IsOther, added_other, added_own}
use Rattle.recipe_plan.proofs.packages.put_packages.Goals.{then-need-task+in_ok-need, else-need-task}
use Rattle.recipe_plan.proofs.packages.put_packages.Goals as goal

pub loop-need-preserved : goal.loop-need-preserved
loop-need-preserved c =
    let old = c.args.graph.now in
    let mid = c.loop-need.graph in
    let task = c.args.task in
    let needs = c.args.needs.now in
    let i = c.loop-need.need-index in
    let need = get_or needs i 0 in
    let inside : i < length needs = omega arith in
    let is : get_or needs i need ≡ need = get_or_default needs i need 0 inside in
    elim c.if-need-task.branch [
      | then-need-task+in_ok-need w ↦
          subst (AreAdded old (place_of_task task) (IsOther task (take (i + 1) needs))) (sym w.graph-is)
          (added_other old mid task needs i need inside is c.loop-need.invariant w.need.new.self w.if-need-task.true w.in_ok-need.ensures.ok)
      | else-need-task w ↦
          subst (AreAdded old (place_of_task task) (IsOther task (take (i + 1) needs))) (sym w.graph-is)
          (added_own old mid task needs i need inside is c.loop-need.invariant w.if-need-task.false)
    ]

pub returns : goal.returns
returns c =
    let task = c.args.task in
    let needs = c.args.needs.now in
    let i = c.loop-need.need-index in
    subst (λ some. AreAdded c.args.graph.now (place_of_task task) (IsOther task some) c.loop-need.graph) (take_all i needs (omega arith)) c.loop-need.invariant
