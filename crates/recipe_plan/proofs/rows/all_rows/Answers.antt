use Rattle.std.proofs.Common.{sym, ◌∙◌, arith}
use Rattle.std.proofs.lemmas.Result.{err_from_is_err_and}
use Rattle.recipe_plan.specs.Rows.{put_rows}
use Rattle.recipe_plan.proofs.RowLaws.{next_put, next_fails, put_count}
use Rattle.recipe_plan.proofs.rows.all_rows.Goals as goal

pub returns-in_err-put_rows : goal.returns-in_err-put_rows
returns-in_err-put_rows c =
    let given = err_from_is_err_and c.from_residual.result c.from_residual.ensures.1 in
    rw (given.1, given.2) (λ free. sym c.loop-item.invariant.rows ∙ next_fails (put_rows c.args.vars.now c.args.graph.now) c.loop-item.rows c.args.packages.now
    c.loop-item.item-index c.item-item.result c.in_err-put_rows.field-0.0 c.loop-item-test.true c.item-item.is (c.in_err-put_rows.ensures free))

pub loop-item-preserved : goal.loop-item-preserved
loop-item-preserved c = record {
  rows = sym (next_put (put_rows c.args.vars.now c.args.graph.now) c.loop-item.rows c.put_rows.new.rows c.args.packages.now c.loop-item.item-index c.item-item.result
      c.loop-item-test.true c.item-item.is c.in_ok-put_rows.ensures) ∙ c.loop-item.invariant.rows;
  count = omega (
    arith,
    c.loop-item.invariant.count,
    put_count c.args.vars.now c.args.graph.now c.loop-item.rows c.item-item.result c.put_rows.new.rows c.in_ok-put_rows.ensures,
  );
}
