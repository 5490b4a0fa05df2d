use Rattle.std.proofs.Common.{◌≡◌, ◌&&◌, length, find, reverse}
use Rattle.kc_equations.specs.Behind.{behind}
use Rattle.kc_equations.specs.Equation.{is_wished_y}
use Rattle.kc_menu.specs.Visible.{is_visible}
use Rattle.kc_equations.proofs.choice.wished_member.Given as goal

-- the last is among those that are left
abbrev pub invariant-loop-wish : goal.invariant-loop-wish
invariant-loop-wish l =
    find (λ w. is_wished_y w.value && is_visible (behind l.members) w.symbol l.values) (reverse l.rest) ≡ find (λ w. is_wished_y w.value && is_visible (behind l.members) w.symbol l.values) (reverse l.wishes)

abbrev pub decreases-loop-wish : goal.decreases-loop-wish
decreases-loop-wish l = length l.rest
