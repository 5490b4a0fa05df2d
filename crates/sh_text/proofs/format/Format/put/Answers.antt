use Rattle.std.proofs.Common.{length, sym, ap, arith}
use Rattle.sh_text.specs.Formats.{put_out}
use Rattle.sh_text.proofs.Formats.{again_less, put_on, put_end}
use Rattle.sh_text.proofs.format.Format.put.Goals as goal

pub loop-left-smaller : goal.loop-left-smaller
loop-left-smaller c =
    let less = again_less c.args.self.now c.loop-left.left.now (sym c.loop-left-test.ensures) in
    let same = ap length c.in_ok-left-2.ensures.left in
    omega arith

pub loop-left-preserved : goal.loop-left-preserved
loop-left-preserved c =
    let on = put_on c.args.self.now c.loop-left.left.now c.args.out.now.items c.loop-left.out.items (put_out c.args.self.now c.args.words.now) c.loop-left.invariant (sym c.loop-left-test.ensures) in
    cc (on, c.in_ok-left-2.ensures.left, c.in_ok-left-2.ensures.text)

pub returns : goal.returns
returns c = put_end c.args.self.now c.loop-left.left.now c.args.out.now.items c.loop-left.out.items (put_out c.args.self.now c.args.words.now) c.loop-left.invariant (sym c.loop-left-test.ensures)
