use Rattle.std.proofs.Common.{ℕ, ◌≡◌, ◌-◌, ◌<◌, Some, length}
use Rattle.std.specs.List.{range_with_len}
use Rattle.std.specs.FinMap as fin
use Rattle.tree_ops.specs.Tree.{IsTree}
use Rattle.task_shelves.specs.Packages.{Left, left_by}
use Rattle.root_merge.specs.Owners.{owners_in, with_tasks}
use Rattle.root_merge.proofs.owners.owners.Given as goal

-- the tasks that are left add up to the same as all of them, and the packages so far left trees
abbrev pub invariant-loop-task : goal.invariant-loop-task
invariant-loop-task g l = record {
  owners : with_tasks (left_by l.plan (g.S.Shelves.shelves l.shelves)) (range_with_len l.task (length l.plan.rows - l.task)) (owners_in l.owners)
      ≡ with_tasks (left_by l.plan (g.S.Shelves.shelves l.shelves)) (range_with_len 0 (length l.plan.rows)) fin.empty;
  trees : (task : ℕ) (left : Left) → task < l.task → left_by l.plan (g.S.Shelves.shelves l.shelves) task ≡ Some left → IsTree left.trees.target;
}
