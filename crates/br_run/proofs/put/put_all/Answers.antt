use Rattle.std.proofs.Common.{◌≡◌, ◌+◌, ◌≤◌, length, drop, length-drop, ap, ◌∙◌, arith}
use Rattle.std.proofs.lemmas.List.{drop-drop}
use Rattle.br_run.proofs.Puts.{Appended-more}
use Rattle.br_run.proofs.put.put_all.Goals as goal

pub loop-rest-preserved : goal.loop-rest-preserved
loop-rest-preserved g c =
    let so_far = c.loop-rest.invariant.put in
    let count = so_far.0 in
    let puts = c.in_ok-count.ensures.puts in
    let fits : count + c.in_ok-count.count ≤ length c.args.text.now =
    omega (arith, length-drop count c.args.text.now, ap length so_far.2, so_far.1, puts.0) in
    record {
      put = (
        count + c.in_ok-count.count,
        fits,
        c.split_at.ensures.back ∙ ap (drop c.in_ok-count.count) so_far.2 ∙ drop-drop c.in_ok-count.count count c.args.text.now,
        Appended-more c.args.text.now _ count c.in_ok-count.count so_far.2 so_far.3 puts.2,
      );
      kept = c.in_ok-count.ensures.cause.kept (λ failed. cc) ∙ c.loop-rest.invariant.kept;
      untouched = λ empty.
          let none : length c.loop-rest.rest.now ≡ 0 = omega (arith, length-drop count c.args.text.now, ap length so_far.2, ap length empty) in
          let test = rw none at c.loop-rest-test.ensures in
          absurd (cc test);
    }
