use Rattle.std.proofs.Common.{◌≡◌, ◌<◌, length, sym, subst, ap, ◌∙◌, arith}
use Rattle.std.specs.List.{All}
use Rattle.cycle_walks.proofs.Sights.{row_below}
use Rattle.dep_graph.specs.Waiting.{shown, taken_next}
use Rattle.dep_graph.proofs.Takings.{IsWaiting, nothing_waiting, least_from, taken_waiting, taken_falls, order_from}
use Rattle.dep_graph.proofs.least_first.least_first.Goals as goal

pub loop-task-init : goal.loop-task-init
loop-task-init c = subst (IsWaiting c.args.graph.now) (sym c.in_ok-waiting.ensures) (nothing_waiting c.args.graph.now)

pub take-requires-clause-users : goal.take-requires-clause-users
take-requires-clause-users c =
    let users = c.in_ok-users.users in
    let same : length users ≡ length c.loop-task.waiting.stands.items = c.in_ok-users.ensures.count ∙ sym c.loop-task.invariant.sized in
    subst (λ n. All (λ other. other < n) c.row.result.now) same
    (subst (All (λ other. other < length users)) (sym c.row.ensures.row) (row_below users c.row.ensures.graph c.in-Some.task))

pub loop-task-smaller : goal.loop-task-smaller
loop-task-smaller c =
    let s = shown c.loop-task.waiting in
    let task = c.in-Some.task in
    let w = c.loop-task.invariant in
    let next = least_from c.args.graph.now s w task (sym c.in-Some.ensures) in
    let is = c.in_ok-take.ensures ∙ ap (taken_next s task) c.row.ensures.row in
    omega (arith, ap (λ x. length x.taken) is, taken_falls c.args.graph.now s w task next c.in_ok-users.users c.in_ok-users.ensures.users)

pub loop-task-preserved : goal.loop-task-preserved
loop-task-preserved c =
    let s = shown c.loop-task.waiting in
    let task = c.in-Some.task in
    let w = c.loop-task.invariant in
    let next = least_from c.args.graph.now s w task (sym c.in-Some.ensures) in
    let is = c.in_ok-take.ensures ∙ ap (taken_next s task) c.row.ensures.row in
    subst (IsWaiting c.args.graph.now) (sym is) (taken_waiting c.args.graph.now s w task next c.in_ok-users.users c.in_ok-users.ensures.users)

pub returns : goal.returns
returns c = order_from c.args.graph.now (shown c.loop-task.waiting) c.loop-task.invariant c.users_of.ensures.needs c.requires (sym c.in_default.ensures)
