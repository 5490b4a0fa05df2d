use Rattle.std.proofs.Common.{◌≡◌, ◌&&◌, drop, find}
use Rattle.kc_equations.specs.Behind.{behind}
use Rattle.kc_expr.specs.Holds.{holds}
use Rattle.kc_menu.specs.Visible.{is_visible}
use Rattle.kc_equations.proofs.choice.default_member.Given as goal

-- the first is among those that are left
abbrev pub invariant-loop-default : goal.invariant-loop-default
invariant-loop-default l = find (λ d. holds l.values d.condition && is_visible (behind l.members) d.symbol l.values) (drop l.default-index l.default-items) ≡ find (λ d. holds l.values d.condition && is_visible (behind l.members) d.symbol l.values) l.default-items
