use Rattle.std.proofs.Common.{◌++◌, [], ◌∷◌, Ok, subst, rules}
use Rattle.feed_io.specs.Feed.{Takes}
use Rattle.feed_io.proofs.Taking.{IsBegun-push}
use Rattle.feed_io.proofs.read.read_all.Goals as goal

pub loop-number-preserved : goal.loop-number-preserved
loop-number-preserved g c =
    let begun = c.loop-number.invariant.begun in
    let file = c.in-Some.file in
    let takes = subst (λ given. Takes (g.F.Feed.left c.loop-number.feed) (Ok given) (g.F.Feed.left c.next.new.self)) c.in-Some.is c.in_ok-next.ensures.takes in
    record {
      kept = search rules;
      calls = search rules;
      begun = (begun.0 ++ file ∷ [], IsBegun-push _ _ _ begun.0 file _ _ _ begun.1 takes (c.in_ok-add-in-Some.ensures.taken begun.0 begun.1.front));
    }
