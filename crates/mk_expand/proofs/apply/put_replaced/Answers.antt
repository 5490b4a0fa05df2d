use Rattle.std.proofs.Common.{◌≡◌, ap, length, arith}
use Rattle.std.proofs.lemmas.Bool.Decides.{nat_tests}
use Rattle.mk_expand.specs.Draft.{put}
use Rattle.mk_expand.proofs.Steps.{as_run}
use Rattle.mk_expand.proofs.Replacing.{replaced_unsought}
use Rattle.mk_expand.proofs.apply.put_replaced.Goals as goal

pub returns-then-is_empty : goal.returns-then-is_empty
returns-then-is_empty c =
    let empty : length c.args.from.now ≡ 0 = grind (arith, nat_tests) in
    as_run c.put.result c.put.new.self (ap (λ t. put t c.args.out.now) (replaced_unsought c.args.from.now c.args.to.now c.args.text.now empty)) c.put.ensures
