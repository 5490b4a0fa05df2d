use Rattle.std.proofs.Common.{◌≡◌, drop}
use Rattle.kc_menu.specs.Visible.{all_hold}
use Rattle.kc_menu.proofs.menu.Exprs.all_hold.Given as goal

abbrev pub invariant-loop-condition : goal.invariant-loop-condition
invariant-loop-condition l = all_hold (drop l.condition-index l.condition-items) l.values ≡ all_hold l.condition-items l.values
