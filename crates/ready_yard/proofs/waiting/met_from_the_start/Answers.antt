use Rattle.std.proofs.Common.{◌≡◌, refl, subst, arith, length, get_or}
use Rattle.ready_yard.specs.Kept.{AreFirstReady}
use Rattle.ready_yard.proofs.Waits.{first_none, first_more}
use Rattle.ready_yard.proofs.waiting.met_from_the_start.Goals as goal

pub loop-task-init : goal.loop-task-init
loop-task-init c = first_none c.args.unmet.now c.in_ok-ready.ready c.in_ok-ready.ensures

pub loop-task-preserved : goal.loop-task-preserved
loop-task-preserved c =
    first_more c.args.unmet.now c.loop-task.ready c.loop-task.task (get_or c.args.unmet.now c.loop-task.task 0) c.put_if.new.ready c.loop-task.invariant c.put_if.ensures refl

pub returns : goal.returns
returns c =
    let all : c.loop-task.task ≡ length c.args.unmet.now = omega (arith, c.requires.len, c.count-task-end.ensures.count, c.loop-task-test.false, c.loop-task.auto.task-end) in
    subst (λ n. AreFirstReady c.args.unmet.now n c.loop-task.ready) all c.loop-task.invariant
