use Rattle.std.proofs.Common.{◌≡◌, ◌++◌, drop}
use Rattle.kc_solve.specs.Words.{words_in}
use Rattle.kc_solve.proofs.words.Words.add_conditions.Given as goal

-- those of the conditions that are left are still to come
abbrev pub invariant-loop-condition : goal.invariant-loop-condition
invariant-loop-condition l = l.self ++ words_in (drop l.condition-index l.condition-items) ≡ l.fn.self ++ words_in l.condition-items
