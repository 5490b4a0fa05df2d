use Rattle.std.proofs.Common.{rules, ◌≡◌, ◌<◌, ◌∷◌, [], ◌++◌, ◌+◌, map, take, length, slice_index_or, sym, ap, subst, ◌∙◌}
use Rattle.std.proofs.Math.Seq.{take-length}
use Rattle.std.proofs.lemmas.List.{take_more, map-append}
use Rattle.dep_graph.specs.Needs.{needs_of}
use Rattle.task_shelves.specs.Shelf.{shelf_data}
use Rattle.pkg_steps.specs.Outcome.{outcome_of}
use Rattle.pkg_steps.specs.Runs.{HasTaken}
use Rattle.pkg_steps.proofs.Taking.{if_ok}
use Rattle.serial_build.proofs.serial.run_task.Goals as goal

pub loop-need-preserved : goal.loop-need-preserved
loop-need-preserved g c =
    let tree = g.T.TreeOps.tree in
    let items = c.needs-need-items.result.now in
    let index = c.loop-need.need-index in
    let shelves = g.S.Shelves.shelves c.args.shelves.now in
    let inside : index < length items = search rules in
    let more : map shelves (take index items) ++ shelf_data tree c.shelf.result.now ∷ [] ≡ map shelves (take (index + 1) items) =
    ap (λ s. map shelves (take index items) ++ s ∷ []) c.shelf.ensures.shelf
    ∙ sym (ap (map shelves) (take_more items index 0 inside) ∙ map-append shelves (take index items) (slice_index_or items index 0 ∷ [])) in (
      c.need.ensures.plan ∙ c.loop-need.invariant.0,
      c.need.ensures.task ∙ c.loop-need.invariant.1,
      c.need.ensures.held,
      subst (HasTaken tree c.need.new.self) more (c.in_ok-need.ensures.taken (map shelves (take index items)) c.loop-need.invariant.3),
    )

pub returns-clause-shelf : goal.returns-clause-shelf
returns-clause-shelf g c =
    let items = c.needs-need-items.result.now in
    let index = c.loop-need.need-index in
    let shelves = g.S.Shelves.shelves c.args.shelves.now in
    let at_end : index ≡ length items = search rules in
    let whole : take index items ≡ needs_of c.args.plan.now.graph c.args.task = ap (λ n. take n items) at_end ∙ take-length items ∙ c.needs-need-items.ensures.needs in
    if_ok c.run.result
    (λ s each. each (map shelves (take index items)) c.loop-need.invariant.3
    ∙ (λ i. outcome_of (c.loop-need.invariant.0 i) (g.C.Commands.shell c.args.commands.now) (c.loop-need.invariant.1 i) (map shelves (whole i))))
    c.run.ensures.shelf
