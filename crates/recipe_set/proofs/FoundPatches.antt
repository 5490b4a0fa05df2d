-- The search for a patch, folder by folder and name by name.
use Rattle.std.proofs.Common.{◌≡◌, ℕ, ◌+◌, ◌<◌, Option, Some, List, [], ◌∷◌, ◌++◌, map, length, get_or, take, sym, ap, ◌∙◌, subst, ◌↔◌, arith}
use Rattle.std.specs.Prelude.{Contains, All, IfSome}
use Rattle.std.specs.List.Sorted.{IsStrictlySortedBy}
use Rattle.std.specs.Ordering.{nat_cmp}
use Rattle.std.specs.Cmp.Lexicographic.{slice_cmp}
use Rattle.std.proofs.lemmas.List.{length-map, take-map, get_or-map}
use Rattle.std.proofs.lemmas.List.Elements.{All-map, All-get_or, All-more, All-same}
use Rattle.br_path.specs.Path.{Names}
use Rattle.br_path.specs.Files.{FileMap, IsChild}
use Rattle.recipe_set.specs.declared.folder.RecipeFile.{RecipeFile}
use Rattle.recipe_set.specs.Effect.{folder_path}
use Rattle.recipe_set.specs.Reading.{AreRecipes, IsPatch, IsFirstPatch}
use Rattle.recipe_set.specs.Found.{told, IsFound, IsPatchOf, IsFirstPatchOf}
use Rattle.recipe_set.proofs.Patches.{HasNoPatch, no_patches, first_patch, least_name}

-- a list with one more of which something holds
pub All-next : {X : Type 0} (P : X → Type 0) (xs : List X) (i : ℕ) (x : X) → i < length xs → x ≡ get_or xs i x → All P (take i xs) → P x → All P (take (i + 1) xs)
All-next P xs i x within at all holds = All-more P xs i x within all (subst P at holds)

module _ (files : FileMap) (recipes : List RecipeFile) (are : AreRecipes files (map told recipes)) where
  pub none_found : All (λ r. HasNoPatch files (told r)) recipes → (at : Names) → IsPatch files at → ⊥
  none_found none = no_patches files (map told recipes) are (All-map (HasNoPatch files) told recipes none)

  module _ (found : All IsFound recipes) (i : ℕ) (recipe : RecipeFile) (within : i < length recipes) (is : recipe ≡ get_or recipes i recipe) where
    -- a recipe that is found is in its place
    pub is_placed : recipe.folder.path ≡ folder_path recipe.folder.name
    is_placed = (subst IsFound (sym is) (All-get_or IsFound recipes i recipe within found)).folder

    -- a patch in the first folder that has one
    pub found_first : (at : Names) → All (λ r. HasNoPatch files (told r)) (take i recipes) → IsFirstPatchOf files recipe.folder.path at → IsFirstPatch files at
    found_first at none first =
        let inside : i < length (map told recipes) = omega (arith, length-map recipes told) in
        let here : told recipe ≡ get_or (map told recipes) i (told recipe) = ap told is ∙ sym (get_or-map told recipes i recipe (told recipe) within) in
        first_patch files (map told recipes) are i recipe.folder.name recipe.text.now at inside here (subst (λ p. IsFirstPatchOf files p at) is_placed first)
        (All-same (HasNoPatch files) (take i (map told recipes)) (map told (take i recipes)) (take-map told i recipes) (All-map (HasNoPatch files) told (take i recipes) none))

    -- a folder in which none is found has none
    pub none_more : ((name : List ℕ) → IsPatchOf files recipe.folder.path name → ⊥) → All (λ r. HasNoPatch files (told r)) (take i recipes) → All (λ r. HasNoPatch files (told r)) (take (i + 1) recipes)
    none_more without none =
        All-next (λ r. HasNoPatch files (told r)) recipes i recipe within is none (λ patch. without patch.0 (subst (λ p. IsPatchOf files p patch.0) (sym is_placed) patch.1))

-- the first patch of a folder
pub first_of : (files : FileMap) (folder : Names) (names : List (List ℕ)) (i : ℕ) (name : List ℕ) (at : Names) → i < length names → name ≡ get_or names i name → IsStrictlySortedBy (slice_cmp nat_cmp) names →
    ((name : List ℕ) → Contains names name ↔ IsChild files folder name) → All (λ other. IsPatchOf files folder other → ⊥) (take i names) → at ≡ folder ++ name ∷ [] → IsPatchOf files folder name → IsFirstPatchOf files folder at
first_of files folder names i name at within is rises all none placed patch =
    record { name = name; is = placed; patch = patch; least = least_name files folder names i name within is rises all none }

-- what holds of what is found
pub some_is : {X : Type 0} (P : X → Type 0) (found : Option X) (x : X) → found ≡ Some x → IfSome found P → P x
some_is P found x is holds = subst (λ o. IfSome o P) is holds
