-- The outermost of open conditions.
use Rattle.std.proofs.Common.{◌≡◌, Some, List, [], ◌∷◌, ◌++◌, reverse, ap, ◌∙◌, refl}
use Rattle.std.specs.List.{slice_get}
use Rattle.std.proofs.lemmas.List.{reverse-append}
use Rattle.mk_syntax.specs.declared.unfinished.Condition.{Condition}
use Rattle.mk_syntax.specs.Unfinished.{outermost}

-- the last of a list is the outermost
outermost-push : (front : List Condition) (condition : Condition) → outermost (front ++ condition ∷ []) ≡ Some condition
outermost-push [] condition = refl
outermost-push (inner ∷ []) condition = refl
outermost-push (inner ∷ outer ∷ more) condition = outermost-push (outer ∷ more) condition

-- the first that was opened is the outermost
pub outermost_reverse : (opened : List Condition) → outermost (reverse opened) ≡ slice_get opened 0
outermost_reverse [] = refl
outermost_reverse (condition ∷ opened) = ap outermost (reverse-append (condition ∷ []) opened) ∙ outermost-push (reverse opened) condition
