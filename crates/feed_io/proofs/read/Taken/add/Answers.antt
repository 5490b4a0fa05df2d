use Rattle.std.proofs.Common.{rules}
use Rattle.feed_io.proofs.Taking.{IsTaken-push}
use Rattle.feed_io.proofs.read.Taken.add.Goals as goal

pub returns-then-clashes-clause-refused : goal.returns-then-clashes-clause-refused
returns-then-clashes-clause-refused c = search rules

pub returns-in-Ok-clause-taken : goal.returns-in-Ok-clause-taken
returns-in-Ok-clause-taken c before taken =
    IsTaken-push before _ _ _ _ _ taken c.if-number-eq-MOST_FILES.false c.in_ok-path.ensures.place c.in_ok-path.ensures.ok c.in-Ok.ensures.free c.in-Ok.ensures.ok (search rules) (search rules)
