use Rattle.std.proofs.Common.{sym, ap, ◌∙◌}
use Rattle.sh_files.specs.Goals as goals
use Rattle.sh_files.proofs.Last.{last-of}
use Rattle.sh_files.proofs.goal.last_of.Goals as goal

pub returns-in-Some : goal.returns-in-Some
returns-in-Some c = sym (ap goals.last_of c.in-Some.ensures.cases.0 ∙ last-of c.in-Some.field-0-1.now c.in-Some.last.now)
