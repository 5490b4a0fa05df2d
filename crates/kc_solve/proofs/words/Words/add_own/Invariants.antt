use Rattle.std.proofs.Common.{◌≡◌, ◌++◌, drop, flat_map}
use Rattle.kc_solve.specs.Words.{default_words, own_words}
use Rattle.kc_solve.proofs.words.Words.add_own.Given as goal

-- those of the defaults that are left are still to come
abbrev pub invariant-loop-default : goal.invariant-loop-default
invariant-loop-default l = l.self ++ flat_map default_words (drop l.default-index l.default-items) ≡ l.fn.self ++ own_words l.entry
