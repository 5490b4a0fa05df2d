use Rattle.std.proofs.Common.{rules, ◌<◌, ◌≤◌, length, arith}
use Rattle.std.specs.List.{range_with_len}
use Rattle.std.specs.FinMap as fin
use Rattle.task_shelves.specs.Packages.{left_by}
use Rattle.root_merge.specs.Owners.{owners_in, with_tasks}
use Rattle.root_merge.proofs.Adding.{tasks-turn, trees-turn}
use Rattle.root_merge.proofs.owners.owners.Goals as goal

pub loop-task-preserved : goal.loop-task-preserved
loop-task-preserved g c =
    let lefts = left_by c.args.plan.now (g.S.Shelves.shelves c.args.shelves.now) in
    let less : c.loop-task.task < length c.args.plan.now.rows = search rules in
    record {
      owners =
          tasks-turn lefts c.loop-task.task (length c.args.plan.now.rows) (owners_in c.loop-task.owners) (owners_in c.add_package.new.owners)
          (with_tasks lefts (range_with_len 0 (length c.args.plan.now.rows)) fin.empty) less c.in_ok-add_package.ensures.owners c.loop-task.invariant.owners;
      trees = trees-turn lefts c.loop-task.task c.loop-task.invariant.trees c.in_ok-add_package.ensures.tree;
    }

pub returns-clause-trees : goal.returns-clause-trees
returns-clause-trees g c = λ task left less is.
    let all : length c.args.plan.now.rows ≤ c.loop-task.task = search rules in
    c.loop-task.invariant.trees task left (omega arith) is
