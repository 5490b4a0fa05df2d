use Rattle.std.proofs.Common.{◌≡◌, ◌++◌, map}
use Rattle.recipe_set.proofs.Places.{made}
use Rattle.recipe_set.proofs.packages.PackageSet.into_packages.Given as goal

-- the packages so far, and those to come
abbrev pub invariant-loop-name : goal.invariant-loop-name
invariant-loop-name l = l.items.items ++ map made l.name-iterator ≡ l.fn.self
