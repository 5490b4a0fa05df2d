use Rattle.std.proofs.Common.{◌≡◌, drop, is_some}
use Rattle.std.specs.List.{list_any}
use Rattle.kc_equations.specs.Behind.{behind}
use Rattle.kc_solve.proofs.selected.is_member.Given as goal

-- the entries that are left decide
abbrev pub invariant-loop-entry : goal.invariant-loop-entry
invariant-loop-entry l = list_any (λ e. is_some e.choice) (behind (drop l.entry-index l.own)) ≡ list_any (λ e. is_some e.choice) (behind l.own)
