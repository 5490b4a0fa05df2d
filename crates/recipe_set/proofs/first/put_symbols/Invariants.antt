use Rattle.std.proofs.Common.{◌≡◌, take}
use Rattle.std.specs.Prelude.{fold}
use Rattle.recipe_set.specs.First.{with_symbol}
use Rattle.recipe_set.proofs.first.put_symbols.Given as goal

-- the symbols so far
abbrev pub invariant-loop-place : goal.invariant-loop-place
invariant-loop-place l = l.vars ≡ fold with_symbol l.initial.vars (take l.place l.values)
