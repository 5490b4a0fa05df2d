use Rattle.std.proofs.Common.{◌≤◌, arith}
use Rattle.sh_files.proofs.Modes.{limit-all, octal-short, octal-digit, octal-few}
use Rattle.sh_files.proofs.mode.octal.Goals as goal

pub overflow_mul-value : goal.overflow_mul-value
overflow_mul-value c =
    let less = octal-few c.args.digits.now c.loop-digit.digit-index c.loop-digit.value (octal-digit c.args.digits.now c.loop-digit.digit-index c.requires.octal c.loop-digit-test.true) c.loop-digit.invariant.within in
    omega arith

pub returns-clause-limit : goal.returns-clause-limit
returns-clause-limit c =
    let short = octal-short c.args.digits.now c.requires.octal in
    let within : c.loop-digit.digit-index ≤ 4 = omega arith in
    let most = limit-all c.loop-digit.digit-index within in
    let less = c.loop-digit.invariant.within in
    omega arith
