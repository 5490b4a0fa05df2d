use Rattle.std.proofs.Common.{◌≡◌, ◌++◌, drop, flat_map}
use Rattle.kc_equations.specs.Behind.{behind}
use Rattle.kc_solve.specs.Words.{own_words}
use Rattle.kc_solve.proofs.naming.add_entries.Given as goal

-- those of the items that are left are still to come
abbrev pub invariant-loop-entry : goal.invariant-loop-entry
invariant-loop-entry l = l.words ++ flat_map own_words (behind (drop l.entry-index l.own)) ≡ l.fn.words ++ flat_map own_words (behind l.own)
