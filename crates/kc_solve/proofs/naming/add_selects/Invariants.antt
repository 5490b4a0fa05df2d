use Rattle.std.proofs.Common.{◌≡◌, ◌++◌, drop, flat_map}
use Rattle.kc_equations.specs.Behind.{selects_behind}
use Rattle.kc_solve.specs.Words.{select_words}
use Rattle.kc_solve.proofs.naming.add_selects.Given as goal

-- those of the items that are left are still to come
abbrev pub invariant-loop-entry : goal.invariant-loop-entry
invariant-loop-entry l = l.words ++ flat_map (λ x. select_words x.0 x.1) (selects_behind (drop l.entry-index l.selects)) ≡ l.fn.words ++ flat_map (λ x. select_words x.0 x.1) (selects_behind l.selects)
