use Rattle.std.proofs.Common.{◌≡◌, length}
use Rattle.mk_expand.specs.Vars.{hidden}
use Rattle.mk_expand.proofs.locals.Locals.find.Given as goal

abbrev pub invariant-loop-local : goal.invariant-loop-local
invariant-loop-local l = hidden l.self l.name ≡ hidden l.rest l.name

abbrev pub decreases-loop-local : goal.decreases-loop-local
decreases-loop-local l = length l.rest
