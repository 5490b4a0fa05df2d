use Rattle.std.proofs.Common.{◌≡◌, Err, rules}
use Rattle.selection.specs.Lists.{HasLists}
use Rattle.selection.proofs.EachLaws.{each_made}
use Rattle.selection.proofs.ListLaws.{loop_start, loop_step, loop_exit, loop_end}
use Rattle.selection.proofs.lists.all_lists.Goals as goal

pub loop-made-init : goal.loop-made-init
loop-made-init c = loop_start (HasLists c.args.vars.now) c.args.packages.now c.new-all.result.items c.new-all.ensures.items

pub returns-in_err-listed-clause-err : goal.returns-in_err-listed-clause-err
returns-in_err-listed-clause-err c =
    let given : c.from_residual.result ≡ Err c.in_err-listed.field-0.0 = search rules in
    rw given (λ some. loop_exit (HasLists c.args.vars.now) c.args.packages.now c.loop-made.all.items c.loop-made.made-index c.made-item.result _
    c.loop-made.invariant c.loop-made-test.true c.made-item.is (c.in_err-listed.ensures.err some))

pub loop-made-preserved : goal.loop-made-preserved
loop-made-preserved c =
    loop_step (HasLists c.args.vars.now) c.args.packages.now c.loop-made.all.items c.push.new.self.items c.loop-made.made-index c.made-item.result _
    c.loop-made.invariant c.loop-made-test.true c.made-item.is c.in_ok-listed.ensures.ok (search rules)

pub returns-clause-ok : goal.returns-clause-ok
returns-clause-ok c = loop_end (HasLists c.args.vars.now) c.args.packages.now c.loop-made.all.items c.loop-made.made-index c.loop-made.invariant (search rules)

pub returns-clause-made : goal.returns-clause-made
returns-clause-made c = each_made c.args.vars.now c.args.packages.now c.loop-made.all.items (returns-clause-ok c)
