-- What the code keeps of a package whose variables are expanded.
use Rattle.std.specs.Prelude.{◌≡◌}
use Rattle.recipe_plan.specs.declared.texts.Owner.{Owner}
use Rattle.recipe_plan.specs.Texts.{locals_of}

-- an owner has the local names of its package
abbrev pub IsOwner : Owner → Type 0
IsOwner owner = owner.locals ≡ locals_of owner.made.now
