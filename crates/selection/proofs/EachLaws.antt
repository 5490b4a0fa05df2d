-- What each package gives is of that package.
use Rattle.std.proofs.Common.{◌≡◌, List, [], ◌∷◌, map, Ok, refl, ap₂}
use Rattle.mk_expand.specs.Vars.{Table}
use Rattle.recipe_set.specs.declared.packages.Made.{Made}
use Rattle.selection.specs.declared.listed.Listed.{Listed}
use Rattle.selection.specs.Each.{Each, none_left, one_more}
use Rattle.selection.specs.Lists.{HasLists, lists}

of_made : (vars : Table) (made : Made) (item : Listed) → HasLists vars made (Ok item) → item.made ≡ made
of_made vars made item (lists depends extract patch first second third) = refl

-- the packages with their lists are those that are made
pub each_made : (vars : Table) (made : List Made) (all : List Listed) → Each (HasLists vars) made (Ok all) → map (λ item. item.made) all ≡ made
each_made vars [] all none_left = refl
each_made vars (one ∷ made) [] has = elim has [ ]
each_made vars (one ∷ made) (item ∷ all) (one_more first rest) = ap₂ (λ m ms. m ∷ ms) (of_made vars one item first) (each_made vars made all rest)
