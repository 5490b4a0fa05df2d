-- What stands open while a recipe is read.
use Rattle.std.specs.Prelude.{Option, Some, None, List, [], ◌∷◌}
use Rattle.mk_syntax.specs.declared.unfinished.Condition.{Condition}

-- the outermost of the conditions that stand open
abbrev pub outermost : List Condition → Option Condition
outermost [] = None
outermost (inner ∷ []) = Some inner
outermost (inner ∷ outer ∷ more) = outermost (outer ∷ more)
