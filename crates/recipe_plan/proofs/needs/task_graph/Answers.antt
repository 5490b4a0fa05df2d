use Rattle.std.proofs.Common.{◌≡◌, length, slice_get, Some, refl, ap, subst, arith}
use Rattle.std.proofs.lemmas.Option.{slice_get_read}
use Rattle.recipe_plan.proofs.NeedLaws.{needs_next, needs_at_last}
use Rattle.recipe_plan.proofs.needs.task_graph.Goals as goal

pub loop-place-preserved : goal.loop-place-preserved
loop-place-preserved c =
    let packages = c.packages-packages.result.now in
    let chosen = c.args.selection.now in
    let place = c.loop-place.place in
    let item = c.index-packages-place.result in
    let here : slice_get packages place ≡ Some item = slice_get_read packages (length packages) place item refl (omega arith) c.index-packages-place.is in
    let made = c.in_ok-put_needs.ensures in
    needs_next chosen place item c.loop-place.graph c.put_needs.new.graph (subst (λ xs. slice_get xs place ≡ Some item) c.packages-packages.ensures.packages here) c.loop-place.invariant
    made.count made.prep made.make made.others

pub returns : goal.returns
returns c =
    let same = ap length c.packages-packages.ensures.packages in
    needs_at_last c.args.selection.now c.loop-place.place c.loop-place.graph (omega arith) c.count.ensures.needs c.loop-place.invariant
