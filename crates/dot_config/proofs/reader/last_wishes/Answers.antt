use Rattle.std.proofs.Common.{refl, sym, ◌∙◌}
use Rattle.dot_config.proofs.Last.{cut_old}
use Rattle.dot_config.proofs.reader.last_wishes.Goals as goal

pub loop-wish-preserved : goal.loop-wish-preserved
loop-wish-preserved c = cut_old c.args.all.items c.loop-wish.all.items c.pop.new.self.items c.loop-wish.last.items c.in-Some.wish c.in-Some.wish.symbol c.loop-wish.later c.put.new.self c.loop-wish.invariant c.in-Some.ensures.items refl (sym c.in_ok-put.ensures.new ∙ c.if-branch.false) c.in_ok-put.ensures.put
