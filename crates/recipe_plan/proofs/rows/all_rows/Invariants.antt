use Rattle.std.proofs.Common.{◌≡◌, ◌*◌, drop, length}
use Rattle.recipe_plan.specs.Answers.{in_turn}
use Rattle.recipe_plan.specs.Rows.{all_rows, put_rows}
use Rattle.recipe_plan.proofs.rows.all_rows.Given as goal

abbrev pub invariant-loop-item : goal.invariant-loop-item
invariant-loop-item l = record {
  rows : in_turn (put_rows l.vars l.graph) l.rows (drop l.item-index l.packages) ≡ all_rows l.vars l.graph l.packages;
  count : length l.rows ≡ 2 * l.item-index;
}
