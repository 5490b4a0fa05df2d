use Rattle.std.proofs.Common.{rules}
use Rattle.std.proofs.lemmas.Result.{on_ok_weaker}
use Rattle.plan_rows.specs.declared.rows.Part.TheVariants.{Make}
use Rattle.recipe_plan.specs.Needs.{AreAdded, IsTaskOf}
use Rattle.recipe_plan.proofs.NeedLaws.{both_grown}
use Rattle.recipe_plan.proofs.needs.put_needs.Goals as goal

pub returns : goal.returns
returns c =
    let chosen = c.args.selection.now in
    let item = c.args.item.now in
    let make = c.task_at-make.result in
    let before = c.need_all-3.new.graph in
    let grown = λ (last : AreAdded before make (IsTaskOf chosen Make item.extract) c.need_all-4.new.graph).
    both_grown c.args.graph.now c.need.new.self c.need_all.new.graph c.need_all-2.new.graph before c.need_all-4.new.graph chosen item
    c.args.place c.task_at-prep.result make c.task_at-prep.ensures c.task_at-make.ensures
    c.in_ok-need.ensures.ok c.in_ok-need_all.ensures c.in_ok-need_all-2.ensures c.in_ok-need_all-3.ensures last in
    let result = c.need_all-4.result in
    record {
      count = search rules;
      prep = on_ok_weaker result (λ last. (grown last).prep) c.need_all-4.ensures;
      make = on_ok_weaker result (λ last. (grown last).make) c.need_all-4.ensures;
      others = on_ok_weaker result (λ last. (grown last).others) c.need_all-4.ensures;
    }
