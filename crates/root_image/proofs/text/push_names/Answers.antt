use Rattle.std.proofs.Common.{length, sym, arith}
use Rattle.std.proofs.lemmas.Bool.{eqb-false}
use Rattle.root_image.proofs.Writing.{names-whole}
use Rattle.root_image.proofs.text.push_names.Goals as goal

pub returns : goal.returns
returns c =
    let some = eqb-false (length c.args.names.now) 0 (sym c.if-is_empty.ensures) in
    names-whole c.loop-name.text.items c.args.text.now.items c.args.names.now c.loop-name.name-index c.loop-name.invariant c.loop-name-test.false (omega arith)
