use Rattle.std.proofs.Common.{◌+◌, drop, length-drop, take_all, refl, sym, arith}
use Rattle.root_image.proofs.Loop.{first-line, no-newline}
use Rattle.root_image.proofs.image.first_line.Goals as goal

pub returns-in-None-clause-lines : goal.returns-in-None-clause-lines
returns-in-None-clause-lines c = no-newline c.args.text.now (sym c.in-None.ensures.place)

pub returns-in-Some-clause-lines : goal.returns-in-Some-clause-lines
returns-in-Some-clause-lines c =
    first-line c.args.text.now _ _ c.in-Some.end (sym c.in-Some.ensures.place) refl
    (take_all _ (drop (c.in-Some.end + 1) c.args.text.now) (omega (arith, length-drop (c.in-Some.end + 1) c.args.text.now)))
