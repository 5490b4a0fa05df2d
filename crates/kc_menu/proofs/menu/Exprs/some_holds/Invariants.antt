use Rattle.std.proofs.Common.{◌≡◌, drop}
use Rattle.kc_menu.specs.Visible.{some_holds}
use Rattle.kc_menu.proofs.menu.Exprs.some_holds.Given as goal

abbrev pub invariant-loop-condition : goal.invariant-loop-condition
invariant-loop-condition l = some_holds (drop l.condition-index l.condition-items) l.values ≡ some_holds l.condition-items l.values
