use Rattle.std.proofs.Common.{◌≡◌, drop, not}
use Rattle.std.specs.List.{list_any}
use Rattle.kc_values.specs.Values.{is_bool}
use Rattle.kc_equations.specs.Behind.{behind}
use Rattle.kc_solve.proofs.selected.is_value.Given as goal

-- the entries that are left decide
abbrev pub invariant-loop-entry : goal.invariant-loop-entry
invariant-loop-entry l = list_any (λ e. not (is_bool e.kind)) (behind (drop l.entry-index l.own)) ≡ list_any (λ e. not (is_bool e.kind)) (behind l.own)
