use Rattle.std.proofs.Common.{◌≡◌, ◌+◌, ◌<◌, length, get_or, take, sym, ap, subst, ◌∙◌, arith}
use Rattle.dep_graph.specs.Needs.{IsAdded}
use Rattle.recipe_plan.specs.Needs.{AreAdded, IsTaskOf, place_of}
use Rattle.recipe_plan.proofs.NeedLaws.{added_named, added_unnamed}
use Rattle.recipe_plan.proofs.needs.need_all.Goals.{in-Some+in_ok-need, in_default}
use Rattle.recipe_plan.proofs.needs.need_all.Goals as goal

pub loop-name-preserved : goal.loop-name-preserved
loop-name-preserved c =
    let old = c.args.graph.now in
    let mid = c.loop-name.graph in
    let task = c.args.task in
    let part = c.args.part in
    let chosen = c.args.selection.now in
    let names = c.args.names.now in
    let i = c.loop-name.name-index in
    let name = c.name-item.result in
    let same : c.deref-name-items.result.now ≡ names = c.deref-name-items.ensures.value ∙ c.names.view_is in
    let inside : i < length names = omega (arith, ap length same) in
    let is : get_or names i name ≡ name = sym (c.name-item.is ∙ ap (λ xs. get_or xs i name) same) in
    let found : c.place.result ≡ place_of chosen name = c.place.ensures ∙ ap (place_of chosen) c.as_slice.ensures in
    elim c.match-place.branch [
      | in-Some+in_ok-need w ↦
          subst (AreAdded old task (IsTaskOf chosen part (take (i + 1) names))) (sym w.graph-is)
          (added_named old mid task chosen part names i name inside is c.loop-name.invariant w.need.new.self w.in-Some.place (sym found ∙ w.in-Some.is)
          (subst (λ on. IsAdded mid task on w.need.new.self) w.task_at.ensures w.in_ok-need.ensures.ok))
      | in_default w ↦
          subst (AreAdded old task (IsTaskOf chosen part (take (i + 1) names))) (sym w.graph-is)
          (added_unnamed old mid task chosen part names i name inside is c.loop-name.invariant (sym found ∙ w.in_default.is))
    ]
