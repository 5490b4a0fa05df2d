use Rattle.std.proofs.Common.{◌≡◌, ◌++◌, drop, flat_map}
use Rattle.kc_equations.specs.Equation.{members_of}
use Rattle.kc_solve.specs.Words.{taken_words}
use Rattle.kc_solve.proofs.naming.add_defaults.Given as goal

-- those of the defaults that are left are still to come
abbrev pub invariant-loop-default : goal.invariant-loop-default
invariant-loop-default l =
    l.words ++ flat_map (taken_words (members_of l.index.menu.now.entries l.place)) (drop l.default-index l.default-items)
    ≡ l.fn.words ++ flat_map (taken_words (members_of l.index.menu.now.entries l.place)) l.default-items
