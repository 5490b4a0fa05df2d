use Rattle.std.proofs.Common.{take}
use Rattle.std.specs.Prelude.{All}
use Rattle.recipe_set.specs.Found.{IsPatchOf}
use Rattle.recipe_set.proofs.folder.patch_in.Given as goal

-- no name so far is a patch's
abbrev pub invariant-loop-name : goal.invariant-loop-name
invariant-loop-name l = All (λ name. IsPatchOf l.files l.folder name → ⊥) (take l.name-index l.name-items)
