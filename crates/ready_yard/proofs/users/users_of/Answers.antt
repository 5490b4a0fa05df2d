use Rattle.std.proofs.Common.{◌≡◌, ◌+◌, ◌<◌, length, sym, subst, ap, ◌∙◌, arith}
use Rattle.std.specs.List.{All}
use Rattle.dep_graph.specs.Needs.{needs_of}
use Rattle.dep_graph.specs.Waiting.{used_by}
use Rattle.dep_graph.proofs.Users.{AreUsersBelow, length-used_by, users_more, users_all}
use Rattle.ready_yard.proofs.users.users_of.Goals as goal

pub add_user-requires-clause-needs : goal.add_user-requires-clause-needs
add_user-requires-clause-needs c =
    subst (λ n. All (λ other. other < n) c.needs.result.now) (sym c.loop-task.invariant.sized) c.needs.ensures.tasks

pub loop-task-preserved : goal.loop-task-preserved
loop-task-preserved c =
    let needs = c.args.graph.now in
    let users = c.loop-task.users in
    let task = c.loop-task.task in
    let is = c.in_ok-add_user.ensures ∙ ap (used_by users task) c.needs.ensures.needs in
    record {
      sized = ap length is ∙ length-used_by users task (needs_of needs task) ∙ c.loop-task.invariant.sized;
      below = subst (AreUsersBelow needs (task + 1)) (sym is)
          (users_more needs users task (λ q there. omega (arith, c.loop-task.invariant.sized, c.count-count.ensures.needs.graph.closed task q there)) c.loop-task.invariant.below);
    }

pub returns-clause-users : goal.returns-clause-users
returns-clause-users c =
    let needs = c.args.graph.now in
    let all : c.loop-task.task ≡ length needs = omega (arith, c.count-count.ensures.count, c.loop-task.auto.task-end, c.loop-task-test.false) in
    users_all needs c.loop-task.users (subst (λ n. AreUsersBelow needs n c.loop-task.users) all c.loop-task.invariant.below)
